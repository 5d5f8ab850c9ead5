-- All of a reading, written one behind another.
use Rattle.std.proofs.Common.{◌≡◌, List, [], ◌∷◌, ◌++◌, map, Some, Result, Ok, Err, refl, sym, ap, ◌∙◌, append-nil}
use Rattle.std.specs.Prelude.{⊤}
use Rattle.json.specs.Token.{Token, begin_array, end_array}
use Rattle.serde_json.specs.Data.{Data}
use Rattle.op_core.specs.Wire.{list_data}
use Rattle.json_scalar.specs.Scalar.{scalar_data}
use Rattle.json_text.specs.Tokens.{data_tokens, all_tokens, Puts}
use Rattle.json_text.proofs.Texts.{put_list}
use Rattle.doc_api.specs.Words.{Id, Refusal, Scalar, Key, Tagged}
use Rattle.doc_tree.specs.Nodes.{TreeValue}
use Rattle.doc_nodes.specs.declared.node.NodeNumber.{NodeNumber}
use Rattle.doc_tree.specs.Nodes.{tree_number}
use Rattle.doc_view.specs.ByNumber.{AtNode}
use Rattle.doc_view.specs.Readings.{GivesUnlessMemory}
use Rattle.doc_view.specs.Writing.{WritesAll, WritesArray}

module _ {X : Type 0} (json : X → Data) where
  module _ (holds : List X → Type 0) (old new : List Token) where
    pub one_written : (x : X) (r : Result ⊤ Refusal) → holds (x ∷ []) → Puts (data_tokens (json x)) old new r → GivesUnlessMemory (λ _. WritesAll json holds old new) r
    one_written x (Ok done) h w = (x ∷ [], h, w ∙ ap (λ ts. old ++ ts) (sym (append-nil (data_tokens (json x)))))
    one_written x (Err e) h w = w

    pub all_written : (xs : List X) (r : Result ⊤ Refusal) → holds xs → Puts (all_tokens (map json xs)) old new r → GivesUnlessMemory (λ _. WritesAll json holds old new) r
    all_written xs (Ok done) h w = (xs, h, w)
    all_written xs (Err e) h w = w

    -- the array of all, written in parts or as one
    pub array_written : (begins mid : List Token) (xs : List X) (r : Result ⊤ Refusal) → holds xs → begins ≡ old ++ begin_array ∷ []
        → mid ≡ begins ++ all_tokens (map json xs) → Puts (end_array ∷ []) mid new r → GivesUnlessMemory (λ _. WritesArray json holds old new) r
    array_written begins mid xs (Ok done) h first then w =
        (xs, h, w ∙ ap (λ ts. ts ++ end_array ∷ []) (then ∙ ap (λ ts. ts ++ all_tokens (map json xs)) first) ∙ put_list old (map json xs))
    array_written begins mid xs (Err e) h first then w = w

    pub array_put : (xs : List X) (r : Result ⊤ Refusal) → holds xs → Puts (data_tokens (list_data (map json xs))) old new r
        → GivesUnlessMemory (λ _. WritesArray json holds old new) r
    array_put xs (Ok done) h w = (xs, h, w)
    array_put xs (Err e) h w = w

  -- what is written at a node is written at its place
  pub written_at : (tree : TreeValue) (n : NodeNumber) (reads : List Tagged → Key → List X → Type 0) (p : List Tagged) (k : Key) (old new : List Token)
      (r : Result ⊤ Refusal) → tree_number tree p k ≡ Some n → GivesUnlessMemory (λ _. WritesArray json (λ xs. AtNode tree n (λ q j. reads q j xs)) old new) r
      → GivesUnlessMemory (λ _. WritesArray json (reads p k) old new) r
  written_at tree n reads p k old new (Ok done) at h = (h.0, h.1 p k at, h.2)
  written_at tree n reads p k old new (Err e) at h = h

-- the scalars of entries, as JSON
pub entry_scalars : (es : List (Id × Scalar)) → map (λ (e : Id × Scalar). scalar_data e.1) es ≡ map scalar_data (map (λ (e : Id × Scalar). e.1) es)
entry_scalars [] = refl
entry_scalars (e ∷ es) = ap (λ ds. scalar_data e.1 ∷ ds) (entry_scalars es)
