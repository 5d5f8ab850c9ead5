-- Lines in pieces: what was written, and what is left in the piece.
use Rattle.std.proofs.Common.{◌≡◌, ℕ, ◌+◌, ◌<◌, ◌≤◌, nat_lt, true, false, codes, List, [], ◌∷◌, ◌++◌, length, map, drop, get_or, Option, sym, ap, ◌∙◌, subst, append_assoc, append-nil, arith, length-append}
use Rattle.std.specs.Io.KnownBytes.{Appends}
use Rattle.std.proofs.KnownBytes.{Appends-nil, Appends-trans}
use Rattle.std.proofs.lemmas.List.{at_drop_more, drop_all}
use Rattle.std.proofs.lemmas.Bool.Decides.{nat_tests}
use Rattle.serde_json.specs.Data.{Data}
use Rattle.serde_json.specs.View.{items_of}
use Rattle.serde_json.specs.Written.{compact_text, comma_if, items_text}
use Rattle.line_feed.specs.Cut.{AppendsCut}
use Rattle.json.specs.Print.{escape_byte}
use Rattle.lamport_id.specs.declared.id.Id.{Id}
use Rattle.op_core.specs.Wire.{id_data}
use Rattle.doc_api.specs.declared.reply.Reply.TheVariants.{Held, Waiting}
use Rattle.line_proto.specs.Replies.{line_text, reply_data, waiting_data}
use Rattle.line_proto.specs.Writing.{WritesText}

pub puts-nil : (a : Option (List ℕ)) (p : List ℕ) → WritesText a a p p []
puts-nil a p = ([], Appends-nil a, append-nil p)

-- one text, and then another
pub puts-then : (a b c : Option (List ℕ)) (p q r t u : List ℕ) → WritesText a b p q t → WritesText b c q r u → WritesText a c p r (t ++ u)
puts-then a b c p q r t u (written, before, e) (more, after, f) = (
  written ++ more,
  Appends-trans a b c written more before after,
  sym (append_assoc p t u) ∙ ap (λ s. s ++ u) e ∙ append_assoc written q u ∙ ap (λ s. written ++ s) f ∙ sym (append_assoc written more r),
)

-- a text that is cut short is cut short in a longer one
pub cut-longer : (a b : Option (List ℕ)) (s t : List ℕ) → AppendsCut a b s → AppendsCut a b (s ++ t)
cut-longer a b s t (written, appended, (rest, some, whole)) =
    (written, appended, (rest ++ t, omega (arith, some, length-append rest t), sym (append_assoc written rest t) ∙ ap (λ w. w ++ t) whole))

-- what comes behind a text that was written is cut short
pub cut-behind : (a b c : Option (List ℕ)) (s t : List ℕ) → Appends a b s → AppendsCut b c t → AppendsCut a c (s ++ t)
cut-behind a b c s t before (more, after, (rest, some, whole)) =
    (s ++ more, Appends-trans a b c s more before after, (rest, some, append_assoc s more rest ∙ ap (λ w. s ++ w) whole))

pub puts-cut : (a b c : Option (List ℕ)) (p q t u : List ℕ) → WritesText a b p q t → AppendsCut b c (q ++ u) → AppendsCut a c (p ++ (t ++ u))
puts-cut a b c p q t u (written, before, e) (more, after, (rest, some, whole)) = (
  written ++ more,
  Appends-trans a b c written more before after,
  (
    rest,
    some,
    append_assoc written more rest ∙ ap (λ s. written ++ s) whole ∙ sym (append_assoc written q u) ∙ ap (λ s. s ++ u) (sym e) ∙ append_assoc p t u,
  ),
)

-- what was put so far, cut short in the next text
pub cut-between : (a b c : Option (List ℕ)) (p q t u tail whole : List ℕ) → WritesText a b p q t → AppendsCut b c (q ++ u) → whole ≡ t ++ (u ++ tail) → AppendsCut a c (p ++ whole)
cut-between a b c p q t u tail whole puts cut is =
    subst (AppendsCut a c) (append_assoc p (t ++ u) tail ∙ ap (λ s. p ++ s) (append_assoc t u tail ∙ sym is)) (cut-longer a c (p ++ (t ++ u)) tail (puts-cut a b c p q t u puts cut))

-- all is written
pub puts-written : (a b c : Option (List ℕ)) (p q t : List ℕ) → WritesText a b p q t → Appends b c q → Appends a c (p ++ t)
puts-written a b c p q t (written, before, e) after = subst (Appends a c) (sym e) (Appends-trans a b c written q before after)

-- or cut short
pub puts-lost : (a b c : Option (List ℕ)) (p q t : List ℕ) → WritesText a b p q t → AppendsCut b c q → AppendsCut a c (p ++ t)
puts-lost a b c p q t (written, before, e) (more, after, (rest, some, whole)) =
    (written ++ more, Appends-trans a b c written more before after, (rest, some, append_assoc written more rest ∙ ap (λ s. written ++ s) whole ∙ sym e))

-- all is written, and an end after it
pub puts-ended : (a b c : Option (List ℕ)) (q t end : List ℕ) → WritesText a b [] q t → Appends b c (q ++ end) → Appends a c (t ++ end)
puts-ended a b c q t end (written, before, e) after =
    subst (Appends a c) (sym (append_assoc written q end) ∙ ap (λ s. s ++ end) (sym e)) (Appends-trans a b c written (q ++ end) before after)

pub positive : (i : ℕ) → nat_lt 0 (i + 1) ≡ true
positive i = grind (arith, nat_tests)

module _ {X : Type 0} (f : X → Data) where
  -- the items from an index on, to the end of their array
  abbrev pub rest_from : List X → ℕ → List ℕ
  rest_from xs i = items_text (nat_lt 0 i) (items_of (map f (drop i xs)))

  pub rest-more : (xs : List X) (i : ℕ) (d : X) → i < length xs
      → rest_from xs i ≡ (comma_if (nat_lt 0 i) ++ compact_text (f (get_or xs i d))) ++ rest_from xs (i + 1)
  rest-more xs i d h =
      let item = comma_if (nat_lt 0 i) ++ compact_text (f (get_or xs i d)) in
      at_drop_more (λ (ys : List X). items_text (nat_lt 0 i) (items_of (map f ys))) xs i d h
      ∙ sym (append_assoc (comma_if (nat_lt 0 i)) (compact_text (f (get_or xs i d))) (items_text true (items_of (map f (drop (i + 1) xs)))))
      ∙ ap (λ later. item ++ items_text later (items_of (map f (drop (i + 1) xs)))) (sym (positive i))

  pub rest-end : (xs : List X) (i : ℕ) → length xs ≤ i → rest_from xs i ≡ 93 ∷ []
  rest-end xs i h = ap (λ (ys : List X). items_text (nat_lt 0 i) (items_of (map f ys))) (drop_all i xs h)

  -- the next item comes before those that are left
  pub next-item : (xs : List X) (i : ℕ) (x : X) (item done whole : List ℕ) → i < length xs → x ≡ get_or xs i x → item ≡ comma_if (nat_lt 0 i) ++ compact_text (f x)
      → whole ≡ done ++ rest_from xs i → whole ≡ done ++ (item ++ rest_from xs (i + 1))
  next-item xs i x item done whole h at is e =
      e ∙ ap (λ s. done ++ s)
      (rest-more xs i x h ∙ ap (λ y. (comma_if (nat_lt 0 i) ++ compact_text (f y)) ++ rest_from xs (i + 1)) (sym at) ∙ ap (λ p. p ++ rest_from xs (i + 1)) (sym is))

-- a text after the first bytes of a line
pub puts-start : (a b : Option (List ℕ)) (p q h t : List ℕ) → p ≡ h → WritesText a b p q t → WritesText a b [] q (h ++ t)
puts-start a b p q h t e (written, appended, is) = (written, appended, ap (λ s. s ++ t) (sym e) ∙ is)

-- a held operation: its id, the ids that it waits for, the end
pub waiting_regroup : (comma id ids : List ℕ) → comma ++ (91 ∷ (id ++ (44 ∷ 91 ∷ (ids ++ 93 ∷ [])))) ≡ (comma ++ (91 ∷ (id ++ 44 ∷ 91 ∷ []))) ++ (ids ++ 93 ∷ [])
waiting_regroup comma id ids =
    ap (λ s. comma ++ (91 ∷ s)) (sym (append_assoc id (44 ∷ 91 ∷ []) (ids ++ 93 ∷ [])))
    ∙ sym (append_assoc comma (91 ∷ (id ++ 44 ∷ 91 ∷ [])) (ids ++ 93 ∷ []))

pub waiting_text : (held : List (Id × List Id)) → line_text (reply_data (Waiting held)) ≡ (codes "[\"waiting\",[" ++ items_text false (items_of (map waiting_data held))) ++ 93 ∷ 10 ∷ []
unfolding escape_byte
waiting_text held =
    ap (λ s. codes "[\"waiting\",[" ++ s) (append_assoc (items_text false (items_of (map waiting_data held))) (93 ∷ []) (10 ∷ []))
    ∙ sym (append_assoc (codes "[\"waiting\",[") (items_text false (items_of (map waiting_data held))) (93 ∷ 10 ∷ []))

pub held_text : (missing : List Id) → line_text (reply_data (Held missing)) ≡ (codes "[\"held\",[" ++ items_text false (items_of (map id_data missing))) ++ 93 ∷ 10 ∷ []
unfolding escape_byte
held_text missing =
    ap (λ s. codes "[\"held\",[" ++ s) (append_assoc (items_text false (items_of (map id_data missing))) (93 ∷ []) (10 ∷ []))
    ∙ sym (append_assoc (codes "[\"held\",[") (items_text false (items_of (map id_data missing))) (93 ∷ 10 ∷ []))
