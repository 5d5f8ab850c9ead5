-- What a server does for its arguments.
use Rattle.std.specs.Prelude.{◌≡◌, ℕ, Bool, true, List, length, Option, Result, Ok, ⊤}
use Rattle.server_core.specs.Attended.{Bytes}
use Rattle.stored_log.specs.Log.{LogState}
use Rattle.stored_log.specs.declared.port.StoredLog.{Ghosts}
use Rattle.stored_log.specs.declared.stored_fault.StoredFault.{StoredFault}
use Rattle.served_log.specs.Stored.{ServesStored}
use Rattle.tcp_server.specs.Listening.{WritesAddress}

-- one connection may follow another, on the same thread, at a server that stays alone
abbrev pub MayFollow : Bool → Bytes → Bytes → Type 0
MayFollow stays one next = stays ≡ true

abbrev pub was_closed : Result ⊤ StoredFault
was_closed = Ok tt

module _ {L Left : Type 0} (g : Ghosts L Left) where
  -- Where the server listens, and then the sessions of so many threads: one each, and others behind
  -- it where the server stays. They are served from this log, under this name, and it is closed.
  pub record ServesFrom (opened : L) (name : List ℕ) (names : List (List ℕ)) (count : ℕ) (stays : Bool)
      (out_before out_after : Option (List ℕ)) : Type 0 where
    pub listens : Option (List ℕ)
    pub listening : WritesAddress out_before listens
    pub connections : List Bytes
    pub so_many : length connections ≡ count
    pub last : Left
    pub served : ServesStored g (λ bytes. bytes) (MayFollow stays) name names connections opened was_closed last
        listens out_after

  -- The log was opened, and has what was found there.
  pub record ServesAt (finds : L → LogState → Type 0) (name : List ℕ) (names : List (List ℕ)) (count : ℕ) (stays : Bool)
      (out_before out_after : Option (List ℕ)) : Type 0 where
    pub opened : L
    pub found : finds opened (g.log opened)
    pub served : ServesFrom opened name names count stays out_before out_after
