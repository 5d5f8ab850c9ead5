-- What is at ids, read as a list.
use Rattle.std.proofs.Common.{◌≡◌, List, Option, Some, sym, ◌∙◌}
use Rattle.doc_api.specs.Words.{Id, id_cmp}
use Rattle.list_laws.proofs.Bisection.{get-own, get-Contains}
use Rattle.presence_set.specs.ById.{get, IsAscending}
use Rattle.presence_set.proofs.Ascending.{ids_ordered}
use Rattle.doc_rules.specs.Sorted.{AreAll}

module _ {X : Type 0} where
  -- an ascending list of all that is at ids
  pub are_all : (es : List (Id × X)) (at : Id → Option X) → IsAscending es → ((i : Id) → get es i ≡ at i)
      → AreAll id_cmp (λ e. e.0) (λ e. at e.0 ≡ Some e.1) es
  are_all es at ascending gets = record {
    rising = ascending;
    each = λ e c. sym (gets e.0) ∙ get-own ids_ordered es ascending e c;
    all = λ e h. get-Contains ids_ordered es e.0 e.1 (gets e.0 ∙ h);
  }
