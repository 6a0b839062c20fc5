-- Parts as plain data. Each clause on a `PartsSpec` cites it.
use Rattle.std.specs.Prelude.{Bool, nat_eq}
use Rattle.std.specs.Cmp.{IsEquivalence, and_equiv, on_equiv, nat_eq_equiv}
use Rattle.std.specs.Cmp.Lexicographic.{pointwise, lists_equiv, nat_list_eq_equiv}
use Rattle.std.specs.Ordering.{on, eq_of_both}
use Rattle.rent_buf.specs.Rent.{Rented}
use Rattle.rent_buf.specs.Parts.{Parts, parts_of_pairs}
use Rattle.rent_buf.specs.declared.plain_parts.Listed.{Listed}
use Rattle.rent_buf.specs.declared.plain_parts.Listed.TheVariants.{Pairs, Rents}

-- The parts that are listed, in either form.
abbrev pub parts_in : Listed → Parts
parts_in (Pairs pairs) = parts_of_pairs pairs.items
parts_in (Rents rents) = rents.items

-- Whether two parts are equal: as much room, and the same bytes.
abbrev pub part_eq : Rented → Rented → Bool
part_eq = eq_of_both (on (λ part. part.total) nat_eq) (on (λ part. part.bytes) (pointwise nat_eq))

-- Whether parts are equal, one by one.
abbrev pub parts_eq : Parts → Parts → Bool
parts_eq = pointwise part_eq

pub parts_eq_equiv : IsEquivalence parts_eq
parts_eq_equiv = lists_equiv (and_equiv (on_equiv (λ (part : Rented). part.total) nat_eq_equiv)
    (on_equiv (λ (part : Rented). part.bytes) nat_list_eq_equiv))
