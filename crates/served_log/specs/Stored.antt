-- What a server does that starts from a stored log, and what it leaves.
use Rattle.std.specs.Prelude.{◌≡◌, ℕ, Bool, false, List, Option, Result, OnOk, OnErr, ⊤}
use Rattle.server_core.specs.Attended.{Bytes}
use Rattle.stored_log.specs.declared.port.StoredLog.{Ghosts}
use Rattle.served_log.specs.Batches.{AddsBatches}
use Rattle.served_log.specs.Named.{IsRaised}
use Rattle.served_log.specs.Restored.{origin_at}
use Rattle.served_log.specs.Served.{KeepsRows}
use Rattle.served_log.specs.Totals.{ServesSessions}

module _ {L Left : Type 0} (g : Ghosts L Left) where
  -- The file alone held what it has. Only then these connections, and those that follow them, were
  -- served over its documents, as this replica; and the log has batches that fit behind it. Where it could be closed, the
  -- store that is left has all of them.
  pub record ServesFolded {E C : Type 0} (bytes : C → Bytes) (follows : C → C → Type 0) (replica : List ℕ)
      (names : List (List ℕ)) (connections : List C) (begun : L)
      (closed : Result ⊤ E) (last : Left) (out_before out_after : Option (List ℕ)) : Type 0 where
    pub folded : L
    pub new : L
    pub same : g.log folded ≡ g.log begun
    pub was_alone : g.was_alone begun folded
    pub sessions : ServesSessions bytes follows (origin_at replica (g.log begun).docs names) (g.log new).docs names connections out_before out_after
    pub copied : AddsBatches (origin_at replica (g.log begun).docs names) names (g.log folded) (g.log new)
    pub alone : (g.log new).is_alone ≡ (g.log begun).is_alone
    pub works : (g.log new).has_failed ≡ false
    pub is_in_file : OnOk closed (g.is_in_file new last)

  -- The server served from a log that began a new epoch, of which it has its name.
  pub record ServesStored {E C : Type 0} (bytes : C → Bytes) (follows : C → C → Type 0) (name : List ℕ)
      (names : List (List ℕ)) (connections : List C) (old : L)
      (closed : Result ⊤ E) (last : Left) (out_before out_after : Option (List ℕ)) : Type 0 where
    pub begun : L
    pub replica : List ℕ
    pub raised : IsRaised name names replica (g.log old) (g.log begun)
    pub same_tables : (g.log begun).is_alone ≡ (g.log old).is_alone
    pub served : ServesFolded bytes follows replica names connections begun closed last out_before out_after

  -- However it ended: unless the log failed, no row is lost, and the epoch has not sunk. Where it
  -- could be closed, the store that is left has all of it; otherwise a crash leaves all of it.
  pub record LeavesStored {E : Type 0} (names : List (List ℕ)) (old : L) (has_failed : Bool)
      (closed : Result ⊤ E) (last : Left) : Type 0 where
    pub new : L
    pub kept : has_failed ≡ false → KeepsRows names (g.log old) (g.log new)
    pub alone : (g.log new).is_alone ≡ (g.log old).is_alone
    pub is_in_file : OnOk closed (has_failed ≡ false → g.is_in_file new last)
    pub left : OnErr closed (has_failed ≡ false → g.is_in_store new last)
