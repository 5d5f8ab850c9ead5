-- What opening a handle does.
use Rattle.std.specs.Prelude.{◌≡◌, ◌⊎◌, ℕ, List, Option, Some, None}
use Rattle.json_scalar.specs.Refusal.{number_of}
use Rattle.doc_api.specs.Words.{Refusal}
use Rattle.json_scalar.specs.declared.refusal.Refusal.TheVariants.{BadRequest, Forked, NoMemory}
use Rattle.replica_core.specs.declared.restore.Misfit.TheVariants as misfit
use Rattle.replica_c.specs.Stored.{IsUnopened, OpensAs}
use Rattle.replica_c.specs.declared.fault.Fault.{Fault}
use Rattle.replica_c.specs.declared.open.OpenReplica.{OpenReplica}
use Rattle.replica_c.specs.declared.open.Unopened.{Unopened}
use Rattle.replica_c.specs.declared.open.Unopened.TheVariants.{Name, Unfit}

-- the counter that a refusal carries, or 0
abbrev pub last_of : Refusal → ℕ
last_of (Forked last) = last
last_of _ = 0

abbrev pub fault_at : ℕ → Refusal → Fault
fault_at place cause = record { number = number_of cause; last = last_of cause; place = place }

-- a fault as numbers
abbrev pub fault_of : Unopened → Fault
fault_of Name = fault_at 0 BadRequest
fault_of (Unfit (misfit.At place cause)) = fault_at place cause
fault_of (Unfit misfit.NoMemory) = fault_at 0 NoMemory

-- it is opened, with 0 and the fault as it was before; or it isn't, and the fault says why
abbrev pub OpensNone : List ℕ → List ℕ → ℕ → Fault → Fault → Option OpenReplica → Type 0
OpensNone name text n before fault after =
    ((o : OpenReplica) × OpensAs name text o.replica × (after ≡ Some o) × (n ≡ 0) × (fault ≡ before))
    ⊎ ((why : Unopened) × IsUnopened name text why × (after ≡ None) × (fault ≡ fault_of why) × (n ≡ fault.number))

-- a handle that owns a replica keeps it, and the fault is as it was before
abbrev pub CallsOpen : Option OpenReplica → List ℕ → List ℕ → ℕ → Fault → Fault → Option OpenReplica
    → Type 0
CallsOpen None name text n before fault after = OpensNone name text n before fault after
CallsOpen (Some o) name text n before fault after = (n ≡ number_of BadRequest) × (after ≡ Some o) × (fault ≡ before)
