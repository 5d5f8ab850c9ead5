-- What `LogCopy` is to the port of the stored log.
use Rattle.std.proofs.Common.{◌≡◌, ◌⊎◌, inl, inr, ◌↔◌, ◌+◌, ℕ, List, Bool, true, false, Option, Some, None, Result, Ok, Err, OnOk, refl, sym, subst, ◌∙◌}
use Rattle.std.specs.Coded.{Coded-set, coded_ℕ, coded_list}
use Rattle.std.proofs.lemmas.List.Sorted.{IsPermutation-sym, IsPermutation-trans}
use Rattle.std.proofs.Math.Logic.{∥∥₁_elim}
use mathlib.Core.HLevel.{⊥_prop}
use Rattle.sqlite_trees.specs.View.{IsClean}
use Rattle.sqlite.specs.Tree.{Trees}
use Rattle.sqlite.specs.Store.{Ghosts}
use Rattle.sqlite.specs.Held.{state}
use Rattle.sqlite.specs.State.{HasCleanDisk}
use Rattle.op_core.specs.Op.{Op}
use Rattle.stored_rows.specs.Content.{Holds}
use Rattle.stored_rows.proofs.SortLemmas.{one_epoch}
use Rattle.stored_rows.proofs.OneLog.{one_log}
use Rattle.stored_log.specs.Docs.{AreSound, Doc, add_batch}
use Rattle.stored_log.specs.contracts.doc.StoredDoc as doc
use Rattle.stored_log.specs.declared.fault.Fault.{Fault}
use Rattle.stored_log.specs.declared.fault.Fault.TheVariants.{Store}
use Rattle.stored_log.specs.Log.{HasSame, IsAddedOrNot, IsRaisedOrNot, LeavesOne, LogState}
use Rattle.log_copy.specs.Kept.{Kept, IsSoundCopy, content}
use Rattle.log_copy.specs.Folded.{HasFolded, WasAlone}
use Rattle.log_copy.specs.Port.{CrashLeaves, HasSuch, IsInStore, IsSure, StoreLeaves, copied_log}

-- tables hold the documents of one list of good ones
pub held_docs : (db : Trees) (it other : LogState) → HasSuch (HasSame it) db → HasSuch (HasSame other) db → AreSound it.docs → AreSound other.docs → it.docs ≡ other.docs
held_docs db it other holds also sound fine =
    let first = subst AreSound (sym holds.is_such.same_docs) sound in
    let second = subst AreSound (sym also.is_such.same_docs) fine in
    sym holds.is_such.same_docs
    ∙ one_log holds.docs also.docs first.in_order first.good second.in_order second.good (IsPermutation-trans _ _ _ holds.holds.entry (IsPermutation-sym _ _ also.holds.entry))
    ∙ also.is_such.same_docs

-- and have one epoch
pub held_epoch : (db : Trees) (it other : LogState) → HasSuch (HasSame it) db → HasSuch (HasSame other) db → it.epoch ≡ other.epoch
held_epoch db it other holds also =
    sym holds.is_such.same_epoch ∙ one_epoch (content holds.epoch holds.docs) (content also.epoch also.docs) db holds.holds also.holds ∙ also.is_such.same_epoch

module _ {S : Type 0} (g : Ghosts S) where
  module _ (old new : Kept S) (alone : new.is_alone ≡ old.is_alone) where
    pub raised_or_not : (old.is_alone ≡ true → HasCleanDisk (state g new.conn) → (db : Trees) → (state g new.conn).may_leave db
        → Holds (content old.epoch old.docs) db ⊎ Holds (content (old.epoch + 1) old.docs) db) → CrashLeaves g new (IsRaisedOrNot (copied_log old))
    raised_or_not crash now clean db may = elim (crash (sym alone ∙ now) clean db may) [
      | inl was ↦ record { epoch = old.epoch; docs = old.docs; is_such = record { raised_or_not = inl refl; same_docs = refl }; holds = was }
      | inr is ↦ record { epoch = old.epoch + 1; docs = old.docs; is_such = record { raised_or_not = inr refl; same_docs = refl }; holds = is }
    ]

    pub added_or_not : (name : List ℕ) (ops : List Op) → (old.is_alone ≡ true → HasCleanDisk (state g new.conn) → (db : Trees) → (state g new.conn).may_leave db
        → Holds (content old.epoch old.docs) db ⊎ Holds (content old.epoch (add_batch name ops old.docs)) db) → CrashLeaves g new (IsAddedOrNot name ops (copied_log old))
    added_or_not name ops crash now clean db may = elim (crash (sym alone ∙ now) clean db may) [
      | inl was ↦ record { epoch = old.epoch; docs = old.docs; is_such = record { same_epoch = refl; added_or_not = inl refl }; holds = was }
      | inr is ↦ record { epoch = old.epoch; docs = add_batch name ops old.docs; is_such = record { same_epoch = refl; added_or_not = inr refl }; holds = is }
    ]

  pub leaves_some : (c : Kept S) → (IsClean (g.view c.conn.store) → ∥ ((db : Trees) × g.recovers c.conn.store db) ∥₁) → IsSure g c
      → CrashLeaves g c (λ _ _. ⊥) → ⊥
  leaves_some c some sure left = ∥∥₁_elim (some sure.1) ⊥_prop (λ found. (left sure.0 sure.1 found.0 found.1).is_such)

  pub leaves_one : (c : Kept S) → (IsClean (g.view c.conn.store) → ∥ ((db : Trees) × g.recovers c.conn.store db) ∥₁) → (it other : LogState) → IsSure g c
      → CrashLeaves g c (HasSame it) → CrashLeaves g c (HasSame other) → it.epoch ≡ other.epoch
  leaves_one c some it other sure left also = ∥∥₁_elim (some sure.1) (Coded-set coded_ℕ _ _) (λ found. held_epoch found.0 it other (left sure.0 sure.1 found.0 found.1) (also sure.0 sure.1 found.0 found.1))

  pub leaves_docs : (c : Kept S) → (IsClean (g.view c.conn.store) → ∥ ((db : Trees) × g.recovers c.conn.store db) ∥₁) → (it other : LogState) → IsSure g c
      → CrashLeaves g c (HasSame it) → CrashLeaves g c (HasSame other) → AreSound it.docs → AreSound other.docs → it.docs ≡ other.docs
  leaves_docs c some it other sure left also sound fine = ∥∥₁_elim (some sure.1) (Coded-set (coded_list doc.the_row.coded) _ _)
      (λ found. held_docs found.0 it other (left sure.0 sure.1 found.0 found.1) (also sure.0 sure.1 found.0 found.1) sound fine)

  -- what a crash leaves of a store that is left
  pub store_leaves_one : (last : S) → (IsClean (g.view last) → ∥ ((db : Trees) × g.recovers last db) ∥₁) → IsClean (g.view last) → LeavesOne (StoreLeaves g last)
  store_leaves_one last some clean = record {
    some = λ none. ∥∥₁_elim (some clean) ⊥_prop (λ found. (none clean found.0 found.1).is_such);
    one_epoch = λ it other left also. ∥∥₁_elim (some clean) (Coded-set coded_ℕ _ _) (λ found. held_epoch found.0 it other (left clean found.0 found.1) (also clean found.0 found.1));
    one_docs = λ it other left also sound fine. ∥∥₁_elim (some clean) (Coded-set (coded_list doc.the_row.coded) _ _)
        (λ found. held_docs found.0 it other (left clean found.0 found.1) (also clean found.0 found.1) sound fine);
  }

  works_if_ok : {T : Type 0} (has_failed : Bool) (x : T) → ((◌≡◌ {A = Result T Fault} (Ok x) (Err Store)) ↔ (has_failed ≡ true)) → has_failed ≡ false
  works_if_ok false x failed = refl
  works_if_ok true x failed = absurd (let e = failed.1 refl in cc)

  pub still_works : (new : Kept S) → IsSoundCopy g new → new.has_failed ≡ false → CrashLeaves g new (HasSame (copied_log new))
  still_works new sound works alone clean db may = record {
    epoch = new.epoch;
    docs = new.docs;
    is_such = record { same_epoch = refl; same_docs = refl };
    holds = sound.left works alone clean db may;
  }

  pub still_there : {T : Type 0} (new : Kept S) → IsSoundCopy g new → (r : Result T Fault) → ((r ≡ Err Store) ↔ (new.has_failed ≡ true))
      → OnOk r (CrashLeaves g new (HasSame (copied_log new)))
  still_there new sound (Ok x) failed = still_works new sound (works_if_ok new.has_failed x failed)
  still_there new sound (Err e) failed = tt

pub same_log : {S : Type 0} (a b : Kept S) → (a.epoch ≡ b.epoch) × (a.docs ≡ b.docs) × (a.is_alone ≡ b.is_alone) × (a.has_failed ≡ b.has_failed) → copied_log a ≡ copied_log b
same_log a b same = rw (same.0, same.1, same.2, same.3) refl
