-- A file holds the bytes of the pieces that were put into it last.
use Rattle.std.proofs.Common.{◌≡◌, ◌⊎◌, inl, inr, ℕ, ◌+◌, ◌-◌, ◌≤◌, ◌<◌, max, List, [], ◌∷◌, ◌++◌, length, take, drop, replicate}
use Rattle.std.proofs.Common.{get_or, None, Some, unwrap_or, slice_get, refl, sym, ◌∙◌, ap, arith, length-append}
use Rattle.std.specs.Prelude.{if◌then◌else◌}
use Rattle.std.proofs.lemmas.Bool.Decides.{leb_tells}
use Rattle.std.proofs.lemmas.Option.{slice_get_past, slice_get-get_or}
use Rattle.std.proofs.lemmas.List.{append_assoc, length-take, length-drop, length-replicate, get_or_past, get_or_append_left}
use Rattle.std.proofs.lemmas.List.{get_or-append_right, get_or-take, get_or-drop, get_or-replicate}
use Rattle.machine.specs.Effect.{overwritten}
use Rattle.run_laws.specs.Files.{Piece, end_of, file_end, byte_of, last_byte, HoldsLast}
use Rattle.machine.proofs.Numbers.{below-or-not}

-- A piece puts no byte before its place.
byte-before : (piece : Piece) (p : ℕ) → p < piece.begin → byte_of piece p ≡ None
byte-before piece p lt = elim (leb_tells piece.begin p) [
  | inl past ↦ absurd (let le = past.1 in omega (arith, le, lt))
  | inr within ↦ ap (λ b. if b then slice_get piece.bytes (p - piece.begin) else None) within.0
]

-- From its place on it puts its bytes.
byte-from : (piece : Piece) (p : ℕ) → piece.begin ≤ p → byte_of piece p ≡ slice_get piece.bytes (p - piece.begin)
byte-from piece p le = elim (leb_tells piece.begin p) [
  | inl past ↦ ap (λ b. if b then slice_get piece.bytes (p - piece.begin) else None) past.0
  | inr within ↦ absurd (let lt = within.1 in omega (arith, le, lt))
]

-- Behind its bytes it puts none.
byte-past : (piece : Piece) (p : ℕ) → piece.begin + length piece.bytes ≤ p → byte_of piece p ≡ None
byte-past piece p past =
    byte-from piece p (omega (arith, past)) ∙ slice_get_past piece.bytes (p - piece.begin) (omega (arith, past))

-- Bytes end behind their place, where there are any.
end-of : (begin : ℕ) (bytes : List ℕ) (p : ℕ) → end_of begin bytes ≤ p → begin ≤ p → begin + length bytes ≤ p
end-of begin [] p le from = omega (arith, from)
end-of begin (byte ∷ bytes) p le from = le

-- Behind the end of a file there are zeros.
last-past : (put : List Piece) (p : ℕ) → file_end put ≤ p → last_byte put p ≡ 0
last-past [] p past = refl
last-past (piece ∷ older) p past =
    let rest = last-past older p (omega (arith, past)) in
    elim (below-or-not p piece.begin) [
      | inl lt ↦ ap (λ x. unwrap_or x (last_byte older p)) (byte-before piece p lt) ∙ rest
      | inr from ↦ ap (λ x. unwrap_or x (last_byte older p))
          (byte-past piece p (end-of piece.begin piece.bytes p (omega (arith, past)) from)) ∙ rest
    ]

-- The bytes of a file, with zeros behind them.
pub record Holds (put : List Piece) (bytes : List ℕ) : Type 0 where
  pub ends : length bytes ≡ file_end put
  pub each : (p : ℕ) → get_or bytes p 0 ≡ last_byte put p

-- So are the bytes at each place within it.
pub holds-last : (put : List Piece) (bytes : List ℕ) → Holds put bytes → HoldsLast put bytes
holds-last put bytes h = record {
  ends = h.ends;
  each = λ p within. slice_get-get_or bytes p 0 within ∙ ap Some (h.each p);
}

-- An empty file.
pub holds-none : Holds [] []
holds-none = record { ends = refl; each = λ p. get_or_past [] p 0 (omega arith) }

-- A piece on top, by where a position is.
module _ (put : List Piece) (piece : Piece) (p : ℕ) where
  -- Before it, or behind its bytes.
  last-beside : byte_of piece p ≡ None → last_byte (piece ∷ put) p ≡ last_byte put p
  last-beside none = ap (λ x. unwrap_or x (last_byte put p)) none

  -- Within it.
  last-within : piece.begin ≤ p → p - piece.begin < length piece.bytes → last_byte (piece ∷ put) p ≡ get_or piece.bytes (p - piece.begin) 0
  last-within from within =
      ap (λ x. unwrap_or x (last_byte put p)) (byte-from piece p from ∙ slice_get-get_or piece.bytes (p - piece.begin) 0 within)

-- Bytes that are fed end behind all that is there.
fed-end : (old : ℕ) (bytes : List ℕ) → old + length bytes ≡ max (end_of old bytes) old
fed-end old [] = omega arith
fed-end old (byte ∷ bytes) = omega arith

-- Bytes that are fed.
pub holds-fed : (put : List Piece) (old bytes : List ℕ) → Holds put old →
    Holds (record { begin = file_end put; bytes = bytes } ∷ put) (old ++ bytes)
holds-fed put old bytes h =
    let piece : Piece = record { begin = file_end put; bytes = bytes } in
    let size = length-append old bytes in
    let end = h.ends in
    let behind = fed-end (file_end put) bytes in
    record {
      ends = omega (arith, size, end, behind);
      each = λ p. elim (below-or-not p (length old)) [
        | inl lt ↦ get_or_append_left old bytes 0 p lt ∙ h.each p
            ∙ sym (last-beside put piece p (byte-before piece p (omega (arith, lt, end))))
        | inr from ↦ get_or-append_right old bytes (file_end put) p 0 end (omega (arith, from, end))
            ∙ behind-at p (omega (arith, from, end))
      ];
    }
  where
    behind-at : (p : ℕ) → file_end put ≤ p →
        get_or bytes (p - file_end put) 0 ≡ last_byte (record { begin = file_end put; bytes = bytes } ∷ put) p
    behind-at p from =
        let piece : Piece = record { begin = file_end put; bytes = bytes } in
        elim (below-or-not (p - file_end put) (length bytes)) [
          | inl within ↦ sym (last-within put piece p from within)
          | inr past ↦ get_or_past bytes (p - file_end put) 0 past
              ∙ sym (last-beside put piece p (byte-past piece p (omega (arith, from, past))) ∙ last-past put p from)
        ]

-- Zeros behind bytes.
get_or-zeros : (bytes : List ℕ) (count p : ℕ) → get_or {A = ℕ} (bytes ++ replicate count 0) p 0 ≡ get_or bytes p 0
get_or-zeros bytes count p = elim (below-or-not p (length bytes)) [
  | inl lt ↦ get_or_append_left bytes (replicate count 0) 0 p lt
  | inr past ↦ get_or-append_right bytes (replicate count 0) (length bytes) p 0 refl past ∙ zeros (p - length bytes)
      ∙ sym (get_or_past bytes p 0 past)
]
  where
    zeros : (i : ℕ) → get_or {A = ℕ} (replicate count 0) i 0 ≡ 0
    zeros i = elim (below-or-not i count) [
      | inl lt ↦ get_or-replicate count i 0 0 lt
      | inr past ↦ (let size = length-replicate {A = ℕ} count 0 in get_or_past (replicate count 0) i 0 (omega (arith, size, past)))
    ]

-- Some bytes that are written.
module _ (put : List Piece) (old : List ℕ) (pos : ℕ) (written : List ℕ) (h : Holds put old) where
  -- What is before them.
  abbrev front : List ℕ
  front = take pos (old ++ replicate (pos - length old) 0)

  -- What is behind them.
  abbrev rest : List ℕ
  rest = drop (pos + length written) old

  -- The piece that they are.
  abbrev written_piece : Piece
  written_piece = record { begin = pos; bytes = written }

  -- As many are before them as their place says.
  length-front : length front ≡ pos
  length-front =
      let all = length-append old (replicate (pos - length old) 0) in
      let zeros = length-replicate {A = ℕ} (pos - length old) 0 in
      let cut = length-take pos (old ++ replicate (pos - length old) 0) in
      omega (arith, all, zeros, cut)

  -- The bytes at each position, by where it is.
  written-at : (p : ℕ) → get_or (front ++ (written ++ rest)) p 0 ≡ last_byte (written_piece ∷ put) p
  written-at p = elim (below-or-not p pos) [
    | inl lt ↦ get_or_append_left front (written ++ rest) 0 p (let size = length-front in omega (arith, size, lt))
        ∙ get_or-take pos (old ++ replicate (pos - length old) 0) p 0 lt ∙ get_or-zeros old (pos - length old) p ∙ h.each p
        ∙ sym (last-beside put written_piece p (byte-before written_piece p lt))
    | inr from ↦ elim (below-or-not (p - pos) (length written)) [
      | inl within ↦ get_or-append_right front (written ++ rest) pos p 0 length-front from
          ∙ get_or_append_left written rest 0 (p - pos) within ∙ sym (last-within put written_piece p from within)
      | inr past ↦ get_or-append_right front (written ++ rest) pos p 0 length-front from
          ∙ get_or-append_right written rest (length written) (p - pos) 0 refl past
          ∙ get_or-drop (pos + length written) old (p - pos - length written) 0
          ∙ ap (λ i. get_or old i 0) (let e : pos + length written + (p - pos - length written) ≡ p = omega (arith, from, past) in e)
          ∙ h.each p
          ∙ sym (last-beside put written_piece p (byte-past written_piece p (omega (arith, from, past))))
    ]
  ]

  -- The file with them, where they are some.
  holds-some : end_of pos written ≡ pos + length written → Holds (written_piece ∷ put) (front ++ written ++ rest)
  holds-some end = record {
    ends = (
        let first = length-append (front ++ written) rest in
        let second = length-append front written in
        let size = length-front in
        let cut = length-drop (pos + length written) old in
        let ends = h.ends in
        omega (arith, first, second, size, cut, ends, end));
    each = λ p. ap (λ bytes. get_or bytes p 0) (append_assoc front written rest) ∙ written-at p;
  }

-- A piece of no bytes.
holds-nothing : (put : List Piece) (old : List ℕ) (pos : ℕ) → Holds put old → Holds (record { begin = pos; bytes = [] } ∷ put) old
holds-nothing put old pos h = record {
  ends = (let end = h.ends in omega (arith, end));
  each = λ p. h.each p ∙ sym (last-beside put (record { begin = pos; bytes = [] }) p (nothing p (below-or-not p pos)));
}
  where
    nothing : (p : ℕ) → (p < pos) ⊎ (pos ≤ p) → byte_of (record { begin = pos; bytes = [] }) p ≡ None
    nothing p (inl lt) = byte-before (record { begin = pos; bytes = [] }) p lt
    nothing p (inr from) = byte-past (record { begin = pos; bytes = [] }) p (omega (arith, from))

-- Bytes that are written.
pub holds-written : (put : List Piece) (old : List ℕ) (pos : ℕ) (written : List ℕ) → Holds put old →
    Holds (record { begin = pos; bytes = written } ∷ put) (overwritten old pos written)
holds-written put old pos [] h = holds-nothing put old pos h
holds-written put old pos (byte ∷ written) h = holds-some put old pos (byte ∷ written) h refl
