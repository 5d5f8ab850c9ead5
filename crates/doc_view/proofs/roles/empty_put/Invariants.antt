use Rattle.std.proofs.Common.{◌≡◌, ◌||◌}
use Rattle.std.specs.List.{list_any}
use Rattle.doc_api.specs.Words.{Id}
use Rattle.doc_api.specs.declared.role.Role.{Role}
use Rattle.presence_set.specs.EmptyPut.{puts_map, puts_list}
use Rattle.doc_view.proofs.roles.empty_put.Given as goal

abbrev pub invariant-loop-entry : goal.invariant-loop-entry
invariant-loop-entry l =
    (list_any (λ (e : Id × Role). puts_map e.1) l.fn.roles ≡ (list_any (λ (e : Id × Role). puts_map e.1) l.entry-iterator || l.put.map))
    × (list_any (λ (e : Id × Role). puts_list e.1) l.fn.roles ≡ (list_any (λ (e : Id × Role). puts_list e.1) l.entry-iterator || l.put.list))
