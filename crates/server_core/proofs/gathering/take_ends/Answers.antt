use Rattle.std.proofs.Common.{◌≡◌, map, ap, subst, ◌∙◌}
use Rattle.std.specs.List.{flat_map}
use Rattle.std.specs.List.Sorted.{IsPermutation}
use Rattle.server_core.specs.Attended.{all_of}
use Rattle.server_core.specs.Sums.{first_end, later_ends}
use Rattle.server_core.proofs.Columns.{firsts_of_all, left_of_all}
use Rattle.server_core.proofs.gathering.take_ends.Goals as goal

pub returns-clause-rest : goal.returns-clause-rest
returns-clause-rest g c =
    ap all_of c.take_each.ensures.rest ∙ left_of_all (map (λ t. map (λ s. s.items) t.items) c.replace-threads.result.items)
    ∙ ap (λ v. map later_ends (all_of (map (λ t. map (λ s. s.items) t.items) v.items))) c.replace-threads.ensures.value

pub returns-clause-taken : goal.returns-clause-taken
returns-clause-taken g c =
    let is : c.take_each.new.ends.items ≡ flat_map first_end (all_of (map (λ t. map (λ s. s.items) t.items) c.args.sessions.now.items)) =
    c.take_each.ensures.taken ∙ firsts_of_all (map (λ t. map (λ s. s.items) t.items) c.replace-threads.result.items)
    ∙ ap (λ v. flat_map first_end (all_of (map (λ t. map (λ s. s.items) t.items) v.items))) c.replace-threads.ensures.value in
    subst (λ xs. IsPermutation xs c.sort_unstable_by_key.new.self.items) is c.sort_unstable_by_key.ensures.permutation
