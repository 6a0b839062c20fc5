use Rattle.std.proofs.Common.{◌∙◌, take, drop, sym, ap, subst}
use Rattle.std.specs.Prelude.{IsUtf8}
use Rattle.rent_io.proofs.Texts.{utf8_joined}
use Rattle.rent_io.proofs.read_line.into_text.Goals as goal

pub from_utf8_unchecked-text-requires : goal.from_utf8_unchecked-text-requires
from_utf8_unchecked-text-requires c =
    let start = c.args.start in
    let items = c.into_vec-bytes.result.items in
    utf8_joined start items (subst (λ l. IsUtf8 (take start l)) (sym c.into_vec-bytes.ensures) c.requires.utf8)
    (subst IsUtf8 (c.split_at.ensures.back ∙ ap (drop start) c.as_slice.ensures.value) c.if-is_text.ensures)
