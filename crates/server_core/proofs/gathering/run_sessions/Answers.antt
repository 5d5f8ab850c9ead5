use Rattle.std.proofs.Common.{[], map, inl, refl, rules, ap, ◌∙◌}
use Rattle.std.specs.Option.{option_map}
use Rattle.server_core.specs.Attended.{all_of}
use Rattle.server_core.proofs.Sums.{none_left, none_total}
use Rattle.server_core.proofs.gathering.run_sessions.Goals as goal

pub returns-in_default-clause-left : goal.returns-in_default-clause-left
returns-in_default-clause-left g c =
    let u = c.none_gathered.result in
    let none = c.none_gathered.ensures.none in (
      [],
      inl (refl, search rules),
      none_total g.M.Marker.origin 0 [] u.followed.items u.totals.items none.1 none.0,
      none_left u.totals.items (option_map (λ r. r.1.items) u.refused) (all_of (map (λ t. map (λ s. s.items) t.items) u.sessions.items)) none.0
          (λ i. option_map (λ r. r.1.items) (none.2 i))
          (ap (λ ts. all_of (map (λ t. map (λ s. s.items) t.items) ts)) ((λ i. (c.none_gathered.ensures.left.1 i).items) ∙ c.new.ensures.items)),
    )
