-- What a start finds.
use Rattle.std.proofs.Common.{◌≡◌, false, Result, Ok, Err, IfOk, refl}
use Rattle.sqlite.specs.Store.{Ghosts}
use Rattle.sqlite.specs.Held.{Held, IsNew}
use Rattle.stored_log.specs.Log.{HasSame}
use Rattle.log_copy.specs.Kept.{IsSoundCopy, Kept}
use Rattle.log_copy.specs.Port.{CrashLeaves, copied_log}
use Rattle.log_files.specs.Found.{IsFound, IsFoundIn}

-- what holds where a call ended well
pub if_ok : {T E : Type 0} {P Q : T → Type 0} (r : Result T E) → ((x : T) → P x → Q x) → IfOk r P → IfOk r Q
if_ok (Ok x) f h = f x h
if_ok (Err e) f h = tt

pub found_in_new : {S E : Type 0} (g : Ghosts S) (opened : Held S) → IsNew opened → (r : Result (Kept S) E)
    → IfOk r (λ c. IsFoundIn g opened c c.epoch c.docs) → IfOk r (λ c. IsFound g c c.epoch c.docs)
found_in_new g opened fresh r found = if_ok r (λ c h. record { opened = opened; fresh = fresh; found = h }) found

-- a crash leaves what a sound log has
pub still_there : {S : Type 0} (g : Ghosts S) (c : Kept S) → IsSoundCopy g c → c.has_failed ≡ false → CrashLeaves g c (HasSame (copied_log c))
still_there g c sound works alone clean db may = record {
  epoch = c.epoch;
  docs = c.docs;
  is_such = record { same_epoch = refl; same_docs = refl };
  holds = sound.left works alone clean db may;
}
