-- The runs of servers over one file, one after another.
use Rattle.std.specs.Prelude.{◌≢◌, ◌≤◌, ℕ, List, [], ◌∷◌, ⊤}
use Rattle.std.specs.List.{AllByRecursion}
use Rattle.stored_log.specs.Log.{LogState}
use Rattle.served_log.specs.Named.{IsRaised}

-- A run found what the file had, and began an epoch of it under its NAME.
pub record Run : Type 0 where
  pub name : List ℕ
  pub names : List (List ℕ)
  pub replica : List ℕ
  pub found : LogState
  pub begun : LogState
  pub raised : IsRaised name names replica found begun

-- Each found an epoch that is no smaller than the one that the run before it began, however that
-- ended: a crash and an end leave no smaller one.
abbrev pub FollowFrom : ℕ → List Run → Type 0
FollowFrom epoch [] = ⊤
FollowFrom epoch (r ∷ later) = (epoch ≤ r.found.epoch) × FollowFrom r.begun.epoch later

-- no two of them had the same name of their replica
abbrev pub HaveOwnNames : List Run → Type 0
HaveOwnNames [] = ⊤
HaveOwnNames (r ∷ later) = AllByRecursion (λ (s : Run). s.replica ≢ r.replica) later × HaveOwnNames later
