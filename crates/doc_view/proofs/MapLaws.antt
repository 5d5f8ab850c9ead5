-- The present texts among children are the keys of a map.
use Rattle.std.proofs.Common.{◌≡◌, ℕ, ◌+◌, ◌<◌, List, [], ◌∷◌, ◌++◌, length, get_or, take, append-nil, append_assoc, inl, inr, true, refl, sym, ap, ◌∙◌, subst, Contains}
use Rattle.std.specs.Ordering.{is_lt}
use Rattle.std.proofs.lemmas.List.Elements.{Contains-append_left, Contains-append_right}
use Rattle.doc_api.specs.Words.{Id, name_cmp, Key, Tagged}
use Rattle.op_core.specs.declared.cursor.Key.TheVariants.{Doc, Text, Element, Head}
use Rattle.list_laws.proofs.Members.{Contains-nil, Contains-here, Contains-there, Contains-cases}
use Rattle.crdt_rules.specs.Facts.{Facts}
use Rattle.doc_nodes.specs.declared.node.NodeNumber.{NodeNumber}
use Rattle.key_map.specs.KeyOrder as key_order
use Rattle.key_map.proofs.KeyOrder.{text_lt}
use Rattle.doc_rules.specs.Views.{AreKeys, IsPresent, into_map}
use Rattle.doc_rules.specs.Sorted.{IsRising, AreThose}
use Rattle.doc_rules.specs.Sorted.AreThose.{none, keep, skip}
use Rattle.doc_rules.proofs.Resolved.{those_from}
use Rattle.doc_view.specs.Members.{texts_at, texts_in}
use Rattle.version_vector.proofs.Fronts.{is_Less}
use Rattle.list_laws.proofs.Reading.{take_read}

-- ---- those of a list for which something holds

module _ {X : Type 0} {holds : X → Type 0} where
  pub those_append : {xs ys kept more : List X} → AreThose holds xs kept → AreThose holds ys more → AreThose holds (xs ++ ys) (kept ++ more)
  those_append none those = those
  those_append (keep h rest) those = keep h (those_append rest those)
  those_append (skip h rest) those = skip h (those_append rest those)

  pub those_hold : {xs kept : List X} → AreThose holds xs kept → (x : X) → Contains kept x → holds x
  those_hold none x c = absurd (Contains-nil c)
  those_hold (keep {x = y} {xs} {kept} h rest) x c =
      elim (Contains-cases y kept c) [ inl is ↦ subst holds is h | inr there ↦ those_hold rest x there ]
  those_hold (skip h rest) x c = those_hold rest x c

  pub those_all : {xs kept : List X} → AreThose holds xs kept → (x : X) → Contains xs x → holds x → Contains kept x
  those_all none x c here = c
  those_all (keep {x = y} {xs} {kept} h rest) x c here =
      elim (Contains-cases y xs c) [ inl is ↦ Contains-here kept is | inr there ↦ Contains-there y kept (those_all rest x there here) ]
  those_all (skip {x = y} {xs} h rest) x c here =
      elim (Contains-cases y xs c) [ inl is ↦ absurd (h (subst holds (sym is) here)) | inr there ↦ those_all rest x there here ]

those_rising : {holds : List ℕ → Type 0} {xs kept : List (List ℕ)} → AreThose holds xs kept
    → IsRising name_cmp (λ (t : List ℕ). t) xs → IsRising name_cmp (λ (t : List ℕ). t) kept
those_rising none rising = tt
those_rising (keep h rest) rising = (λ y c. rising.0 y (those_from rest y c), those_rising rest rising.1)
those_rising (skip h rest) rising = those_rising rest rising.1

-- ---- texts among children

pub texts_in-append : (children more : List (Key × NodeNumber)) → texts_in (children ++ more) ≡ texts_in children ++ texts_in more
texts_in-append [] more = refl
texts_in-append (c ∷ children) more =
    ap (λ texts. texts_at c.0 ++ texts) (texts_in-append children more) ∙ sym (append_assoc (texts_at c.0) (texts_in children) (texts_in more))

texts_in-push : (children : List (Key × NodeNumber)) (child : Key × NodeNumber) → texts_in (children ++ child ∷ []) ≡ texts_in children ++ texts_at child.0
texts_in-push children child = texts_in-append children (child ∷ []) ∙ ap (λ texts. texts_in children ++ texts) (append-nil (texts_at child.0))

pub texts_in-next : (children : List (Key × NodeNumber)) (i : ℕ) (child : Key × NodeNumber) → i < length children → child ≡ get_or children i child
    → texts_in (take (i + 1) children) ≡ texts_in (take i children) ++ texts_at child.0
texts_in-next children i child within is = ap texts_in (take_read children i child within is) ∙ texts_in-push (take i children) child

pub texts_step : {holds : List ℕ → Type 0} (children : List (Key × NodeNumber)) (i : ℕ) (child : Key × NodeNumber) → {kept more new : List (List ℕ)}
    → i < length children → child ≡ get_or children i child → AreThose holds (texts_in (take i children)) kept → AreThose holds (texts_at child.0) more
    → new ≡ kept ++ more → AreThose holds (texts_in (take (i + 1) children)) new
texts_step {holds} children i child {kept} {more} {new} within is those one e =
    subst (λ (ts : List (List ℕ)). AreThose holds ts new) (sym (texts_in-next children i child within is))
    (subst (λ (ts : List (List ℕ)). AreThose holds (texts_in (take i children) ++ texts_at child.0) ts) (sym e) (those_append those one))

text_from : (children : List (Key × NodeNumber)) (t : List ℕ) → Contains (texts_in children) t → (n : NodeNumber) × Contains children (Text t, n)
text_from [] t c = absurd (Contains-nil c)
text_from ((Text s, n) ∷ children) t c =
    elim (Contains-cases s (texts_in children) c) [
      | inl is ↦ (n, Contains-here children (λ j. (Text (is j), n)))
      | inr there ↦ let rest = text_from children t there in (rest.0, Contains-there (Text s, n) children rest.1)
    ]
text_from ((Doc, n) ∷ children) t c = let rest = text_from children t c in (rest.0, Contains-there (Doc, n) children rest.1)
text_from ((Element i, n) ∷ children) t c = let rest = text_from children t c in (rest.0, Contains-there (Element i, n) children rest.1)
text_from ((Head, n) ∷ children) t c = let rest = text_from children t c in (rest.0, Contains-there (Head, n) children rest.1)

text_within : (children : List (Key × NodeNumber)) (t : List ℕ) (n : NodeNumber) → Contains children (Text t, n) → Contains (texts_in children) t
text_within [] t n c = absurd (Contains-nil c)
text_within (child ∷ children) t n c =
    elim (Contains-cases child children c) [
      | inl is ↦ Contains-append_left (texts_at child.0) (texts_in children) t
          (subst (λ (x : Key × NodeNumber). Contains (texts_at x.0) t) (sym is) (Contains-here [] refl))
      | inr there ↦ Contains-append_right (texts_at child.0) (texts_in children) t (text_within children t n there)
    ]

texts_rising : (children : List (Key × NodeNumber)) → key_order.IsInKeyOrder children → IsRising name_cmp (λ (t : List ℕ). t) (texts_in children)
texts_rising [] rising = tt
texts_rising ((Text s, n) ∷ children) rising =
    (λ t c. let at = text_from children t c in is_Less (name_cmp s t) (text_lt s t ∙ ap is_lt (rising.0 (Text t, at.0) at.1)), texts_rising children rising.1)
texts_rising ((Doc, n) ∷ children) rising = texts_rising children rising.1
texts_rising ((Element i, n) ∷ children) rising = texts_rising children rising.1
texts_rising ((Head, n) ∷ children) rising = texts_rising children rising.1

pub are_keys : (f : Facts) (p : List Tagged) (k : Key) (children : List (Key × NodeNumber)) (texts : List (List ℕ)) → key_order.IsInKeyOrder children
    → ((t : List ℕ) (i : Id) → f.present (into_map p k) (Text t) i ≡ true → (n : NodeNumber) × Contains children (Text t, n))
    → AreThose (λ t. IsPresent f (into_map p k) (Text t)) (texts_in children) texts → AreKeys f p k texts
are_keys f p k children texts rising has those = record {
  rising = those_rising those (texts_rising children rising);
  each = those_hold those;
  all = λ t here. let at = has t here.0 here.1 in those_all those t (text_within children t at.0 at.1) here;
}
