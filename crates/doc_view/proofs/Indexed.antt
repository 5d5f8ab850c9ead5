-- Those elements of a list for which something holds.
use Rattle.std.proofs.Common.{◌≡◌, List, [], ◌∷◌, filter, Bool, true, false, true≢false, if◌then◌else◌, Decides, ◌⊎◌, inl, inr, Result, Err, refl, sym, ap}
use Rattle.std.specs.Prelude.{⊤}
use Rattle.json_scalar.specs.Refusal.{and_then}
use Rattle.doc_api.specs.Words.{Id, Tagged, Refusal, Cursor}
use Rattle.doc_api.specs.declared.place.Step.{Step}
use Rattle.doc_api.specs.declared.place.Step.TheVariants.{Get, Index}
use Rattle.op_core.specs.declared.cursor.Key.TheVariants.{Element}
use Rattle.doc_tree.specs.Nodes.{TreeValue}
use Rattle.doc_tree.specs.Nodes.{tree_facts}
use Rattle.doc_rules.specs.Views.{into_list, IsPresent}
use Rattle.doc_rules.specs.Resolve.{at_index, at_text, may_go_on, Goes}
use Rattle.doc_rules.specs.Sorted.{AreThose}
use Rattle.doc_rules.specs.Sorted.AreThose.{none, keep, skip}
use Rattle.doc_view.proofs.Presence.{present_or_not}

module _ {X : Type 0} {holds : X → Type 0} where
  -- where it holds of each element or doesn't, those of which it does are a list
  pub those_exist : ((x : X) → holds x ⊎ ¬ (holds x)) → (xs : List X) → (kept : List X) × AreThose holds xs kept
  those_exist known [] = ([], none)
  those_exist known (x ∷ xs) =
      let rest = those_exist known xs in
      elim (known x) [
        | inl h ↦ (x ∷ rest.0, keep h rest.1)
        | inr h ↦ (rest.0, skip h rest.1)
      ]

  -- and a test that decides it keeps them
  pub those_filtered : (test : X → Bool) → ((x : X) → Decides (test x) (holds x)) → (xs : List X) → AreThose holds xs (filter test xs)
  those_filtered test decides [] = none
  those_filtered test decides (x ∷ xs) = go (test x) (decides x) (those_filtered test decides xs)
    where
      go : (b : Bool) → Decides b (holds x) → AreThose holds xs (filter test xs) → AreThose holds (x ∷ xs) (if b then x ∷ filter test xs else filter test xs)
      go true d rest = keep (d.0 refl) rest
      go false d rest = skip (λ h. true≢false (sym (d.1 h))) rest

-- a list has its present elements, whether they are read or not
pub elements_in : (tree : TreeValue) (list : List Tagged)
    → (ids : List Id) × AreThose (λ i. IsPresent (tree_facts tree) list (Element i)) ((tree_facts tree).order list) ids
elements_in tree list = those_exist (λ i. present_or_not tree list (Element i)) ((tree_facts tree).order list)

-- no step leads from where none may go on
pub goes_nowhere : (tree : TreeValue) (from : Cursor) (step : Step) (e : Refusal) → Err e ≡ may_go_on from → Goes (tree_facts tree) from step (Err e)
goes_nowhere tree from (Get text) e stops = ap (λ (may : Result ⊤ Refusal). and_then may (λ _. at_text from text)) stops
goes_nowhere tree from (Index n) e stops =
    let elements = elements_in tree (into_list from.path from.key) in
    (elements.0, elements.1, ap (λ (may : Result ⊤ Refusal). and_then may (λ _. at_index from elements.0 n)) stops)
