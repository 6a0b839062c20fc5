-- What a read up to a newline makes of a text.
use Rattle.std.proofs.Common.{◌≡◌, ◌∙◌, ℕ, ◌≤◌, ◌⊎◌, inl, inr, List, [], ◌++◌, Bool, length, take, drop, sym, ap, subst, arith}
use Rattle.std.proofs.Common.{length-append}
use Rattle.std.specs.Prelude.{◌≢◌, IsUtf8, Result, Ok, Err}
use Rattle.std.proofs.lemmas.List.{take-append-drop}
use Rattle.std.proofs.lemmas.List.Elements.{All-nil}
use Rattle.std.proofs.lemmas.Str.{IsUtf8-append}
use Rattle.rent_buf.specs.declared.fault.IoFault.{IoFault}
use Rattle.rent_io.specs.Reader.{AtEnd, Reader}
use Rattle.rent_io.specs.ReadState.{Gave, Interrupted}
use Rattle.rent_io.specs.ReadUntil.{Until, Lacks, IsLine, ReadsOn, UntilEnd}
use Rattle.rent_io.specs.ReadLine.{Lining, IsLining, LineEnd, LineGoesOn, TextOf}
use Rattle.rent_io.proofs.FirstParts.{take-first}
use Rattle.rent_io.proofs.Rests.{drop-first}

-- Bytes whose first ones and whose others are UTF-8 are.
pub utf8_joined : (n : ℕ) (xs : List ℕ) → IsUtf8 (take n xs) → IsUtf8 (drop n xs) → IsUtf8 xs
utf8_joined n xs front behind = subst IsUtf8 (take-append-drop n xs) (IsUtf8-append (take n xs) (drop n xs) front behind)

-- A read up to a newline as a read of a line.
abbrev pub lining : Until → ℕ → Lining
lining u start = record { text = take start u.bytes; added = drop start u.bytes }

-- Bytes that are added behind leave the text, and are added to the line.
lining-more : (u next : Until) (start : ℕ) (got : List ℕ) → start ≤ length u.bytes → next.bytes ≡ u.bytes ++ got
    → lining next start ≡ record (lining u start) { added = drop start u.bytes ++ got }
lining-more u next start got within is =
    let line : List ℕ → List ℕ → Lining = λ text added. record { text = text; added = added } in
    ap (λ l. line (take start l) (drop start l)) is
    ∙ ap (λ l. line l (drop start (u.bytes ++ got))) (sym (take-first u.bytes got start within))
    ∙ ap (line (take start u.bytes)) (drop-first u.bytes got start within)

-- Where the read up to a newline is interrupted or goes on, so does that of the line.
pub line_again : (tells : Bool) (before now : Reader) (u next : Until) (start : ℕ) → IsLining u start
    → Interrupted tells before now u next ⊎ Gave tells before now (ReadsOn u next)
    → Interrupted tells before now (lining u start) (lining next start)
    ⊎ Gave tells before now (LineGoesOn (lining u start) (lining next start))
line_again tells before now u next start is (inl paused) = inl (ap (λ x. lining x start) paused.0, paused.1, paused.2)
line_again tells before now u next start is (inr goes) = inr (record {
  got = goes.got;
  is = (
    goes.is.0,
    subst (λ d. Lacks d goes.got) is.to_newline goes.is.1,
    lining-more u next start goes.got is.within (ap (λ x. x.bytes) goes.is.2),
  );
  front = goes.front;
})

-- Where it ends, so does the read of the line: with its text.
pub line_ends : (tells : Bool) (before now : Reader) (u : Until) (start : ℕ) (bytes back : List ℕ) (outcome end : Result ℕ IoFault)
    → IsLining u start → UntilEnd tells before now u (outcome, bytes) → TextOf (take start bytes) (drop start bytes) outcome end back
    → LineEnd tells before now (lining u start) back end
line_ends tells before now u start bytes back (Ok n) end is has text =
    let more = lining-more u (record u { bytes = bytes }) start has.got is.within has.is.1 in record {
      outcome = Ok n;
      is = record {
        got = has.got;
        is = (
          subst (λ d. IsLine d has.got ⊎ ((has.got ≡ []) × AtEnd tells before now)) is.to_newline has.is.0,
          omega (arith, has.is.2, is.count, length-append (drop start u.bytes) has.got),
          subst (λ (l : Lining). TextOf l.text l.added (Ok n) end back) more text,
        );
        front = has.front;
      };
    }
line_ends tells before now u start bytes back (Err fault) end is has text =
    let more = lining-more u (record u { bytes = bytes }) start [] is.within has.1.1 in record {
      outcome = Err fault;
      is = (
        has.0,
        (
          All-nil (λ byte. byte ≢ 10),
          has.1.2,
          subst (λ (l : Lining). TextOf l.text l.added (Err fault) end back) more text,
        ),
      );
    }
