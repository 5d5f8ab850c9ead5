-- Lemmas on what an outbox has taken, and what its sink has.
use Rattle.std.proofs.Common.{◌≡◌, ℕ, ◌+◌, ◌-◌, ◌<◌, ◌≤◌, List, [], ◌∷◌, ◌++◌, length, take, drop, slice_range, Option, Some, None, IsSome, refl, sym, ap, ◌∙◌, arith, append_assoc, length-append, length-drop, take-append-drop}
use Rattle.std.specs.Option.{option_map, option_to_list}
use Rattle.std.specs.Io.KnownBytes.{Appends}
use Rattle.std.proofs.lemmas.List.{take_rest, drop-drop, drop-append-le}
use Rattle.std.proofs.lemmas.List.Folds.{drop_split}
use Rattle.std.proofs.Math.Seq.{take-add, take-append_seam, take-append-add}
use Rattle.line_feed.specs.Cut.{AppendsCut, LosesLast}

-- a part, and n more behind it
pub slice_grows : (bytes : List ℕ) (from at n : ℕ) → from ≤ at → at + n ≤ length bytes
    → slice_range bytes from at ++ take n (take (length bytes - at) (drop at bytes)) ≡ slice_range bytes from (at + n)
slice_grows bytes from at n p q =
    let more : take n (take (length bytes - at) (drop at bytes)) ≡ take n (drop (at - from) (drop from bytes)) =
    let here : at ≡ from + (at - from) = omega arith in
    ap (take n) (take_rest bytes at ∙ ap (λ k. drop k bytes) here ∙ sym (drop-drop (at - from) from bytes)) in
    let whole : (at - from) + n ≡ (at + n) - from = omega arith in
    ap (λ l. slice_range bytes from at ++ l) more ∙ sym (take-add (at - from) n (drop from bytes)) ∙ ap (λ k. take k (drop from bytes)) whole

-- Where a sink took a part of what was kept, and the last byte of that is dropped, all that was taken has
-- lost its last.
pub lost_last : (a b : Option (List ℕ)) (kept left : List ℕ) (last : Option ℕ) (from to : ℕ) → Appends a b (slice_range kept from to)
    → from ≤ to → to < length kept → kept ≡ left ++ option_to_list last → IsSome last
    → LosesLast (option_map (λ taken. taken ++ drop from kept) a) (option_map (λ taken. taken ++ drop to left) b)
lost_last None b kept left last from to appends p q is some = tt
lost_last (Some x) None kept left last from to appends p q is some = absurd appends
lost_last (Some x) (Some y) kept left None from to appends p q is some = absurd (cc)
lost_last (Some x) (Some y) kept left (Some l) from to appends p q is some =
    let within : to ≤ length left = omega (arith, ap length is, length-append left (l ∷ [])) in
    let rest : drop to kept ≡ drop to left ++ l ∷ [] = ap (drop to) is ∙ drop-append-le to left (l ∷ []) within in (
      l,
      ap (λ k. x ++ k) (drop_split kept from to p) ∙ sym (append_assoc x (slice_range kept from to) (drop to kept))
          ∙ (λ i. sym appends i ++ rest i) ∙ sym (append_assoc y (drop to left) (l ∷ [])),
    )

-- Where the last of all that was taken is lost, the bytes that were taken last are cut off.
pub cut_by_loss : (a b c : Option (List ℕ)) (bytes : List ℕ) → Appends a b bytes → LosesLast b c → 0 < length bytes → AppendsCut a c bytes
cut_by_loss None b c bytes appends loses some = ([], tt, (bytes, some, refl))
cut_by_loss (Some x) None c bytes appends loses some = absurd appends
cut_by_loss (Some x) (Some y) None bytes appends loses some = absurd loses
cut_by_loss (Some x) (Some y) (Some z) bytes appends (last, is) some =
    let n = length bytes - 1 in
    let one : length (last ∷ []) ≡ 1 = refl in
    let whole : x ++ bytes ≡ z ++ last ∷ [] = sym appends ∙ is in
    let len : length z ≡ length x + n = omega (arith, some, ap length whole, length-append x bytes, length-append z (last ∷ []), one) in
    let left : z ≡ x ++ take n bytes =
    sym (take-append_seam z (last ∷ [])) ∙ ap (take (length z)) (sym whole) ∙ ap (λ k. take k (x ++ bytes)) len ∙ take-append-add x bytes n in
    (take n bytes, left, (drop n bytes, omega (arith, some, length-drop n bytes), take-append-drop n bytes))
