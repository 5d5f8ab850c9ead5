-- What a copied log leaves of a store in files.
use Rattle.std.proofs.Common.{◌≡◌, ℕ, List, Bool, true, false, inl, inr, Result, Ok, Err, OnOk, IfOk, IfErr, IsTrue, sym, ap, subst, ◌∙◌, arith}
use Rattle.sqlite_disk.specs.declared.Disk.{Ghosts as Disk}
use Rattle.sqlite_wal.specs.Recovery.{Image}
use Rattle.sqlite_wal.specs.Files.{outcomes}
use Rattle.sqlite_wal.specs.Reads.{AreClean}
use Rattle.sqlite_wal.proofs.LogLemmas.{SeenMayStay}
use Rattle.sqlite_wal.proofs.StateLemmas.{open_from}
use Rattle.sqlite_pool.proofs.StateLemmas.{clean_is, may_leave_is}
use Rattle.sqlite_trees.specs.View.{View, IsClean, IsQuiet, IsRolledBack}
use Rattle.sqlite_trees.proofs.Doubt.{clean_of as sure}
use Rattle.sqlite_store.specs.declared.store.FileStore.{FileStore}
use Rattle.sqlite_store.specs.FileStore.{state, view, faults, recovers, is_shielded, files, log_frames, HasSpilled}
use Rattle.sqlite.specs.Held.{AreDatabases}
use Rattle.sqlite.proofs.Theorems.{copied}
use Rattle.sqlite.specs.Tree.{Trees}
use Rattle.sqlite.specs.Store.{Ghosts}
use Rattle.sqlite.specs.Effect.{Database}
use Rattle.sqlite.specs.Held.{Held, state as shown}
use Rattle.sqlite.specs.State.{HasCleanDisk}
use Rattle.stored_rows.specs.Tables.{copy_schema}
use Rattle.stored_rows.specs.Content.{Holds}
use Rattle.stored_rows.specs.Steps.{IsOpenWith}
use Rattle.stored_log.specs.Docs.{Doc}
use Rattle.log_copy.specs.Kept.{IsSoundCopy, content}
use Rattle.log_copy.specs.Folded.{IsInFileAlone, Quiets, KeepsCommit, HasFolded, Reopens, StoreHas, FileHas, WasAlone}
use Rattle.log_copy.proofs.SoundLemmas.{IsSettled}

pub on_ok3 : {T E P Q R Z : Type 0} (r : Result T E) → OnOk r P → OnOk r Q → OnOk r R → (P → Q → R → Z) → OnOk r Z
on_ok3 (Ok x) p q r f = f p q r
on_ok3 (Err e) p q r f = tt

pub if_ok : {T E : Type 0} {P Q : T → Type 0} (r : Result T E) → IfOk r P → ((x : T) → P x → Q x) → IfOk r Q
if_ok (Ok x) h f = f x h
if_ok (Err e) h f = tt

pub if_err : {T E : Type 0} {P Q : E → Type 0} (r : Result T E) → IfErr r P → ((e : E) → P e → Q e) → IfErr r Q
if_err (Ok x) h f = tt
if_err (Err e) h f = f e h

module _ {D : Type 0} {g : Disk D} (stays : SeenMayStay g) (back before last : FileStore D g)
    (undone : IsRolledBack (view back) (view before)) (first : IsQuiet view faults recovers is_shielded back before) (logged : IsTrue (view back).is_open → ¬ HasSpilled before)
    (q : IsQuiet view faults recovers is_shielded before last) (same : IsTrue (view last).is_open → view last ≡ view before) where
  pub alone : IsTrue (state before).is_ready → (IsClean (view last) → IsTrue (view last).is_open) → (¬ HasSpilled before → log_frames last ≡ 0)
      → IsClean (view last) → IsTrue (view back).is_numbered → AreDatabases (recovers back) → IsInFileAlone last (view last).committed
  alone ready opens moved none numbered sound =
      let clean : IsClean (view before) = omega (arith, q.clean) in
      let h = open_from (state before) ready (sure (view before).is_clean clean) in
      let on = opens none in
      let sure_now : AreClean g (files last).0 (files last).1 = sym (clean_is last.pool) ∙ sure (view last).is_clean none in
      let same_numbered : IsTrue (view last).is_numbered = ap (λ (v : View). v.is_numbered) (same on) ∙ undone.numbered ∙ numbered in
      let each = λ (image : Image) (may : outcomes g (files last).0 (files last).1 image).
      copied last stays on same_numbered (λ db found. sound db (first.outcomes db (q.outcomes db found))) (moved (logged ((undone.kept clean).was_open h))) image (may_leave_is last.pool image sure_now may) in
      record { seen = each _ (stays _, stays _); left = each }

-- ---- over any store

module _ {S : Type 0} (g : Ghosts S) (alone_in : S → Trees → Type 0) (old : Held S) where
  -- a store that a call left quiet
  pub keeps : (back last : S) → Quiets g old.store back → Quiets g back last → KeepsCommit g old last
  keeps back last first then = record {
    was_clean = λ clean. omega (arith, first.clean, then.clean);
    left = λ clean db may. inl (first.outcomes db (then.outcomes db may));
  }

  -- a store that was opened again
  pub keeps_reopened : IsSettled g → (new : Held S) (last : S) → Reopens g alone_in old new → Quiets g new.store last → KeepsCommit g old last
  keeps_reopened settled new last r quiet = record {
    was_clean = λ clean. let on = r.still_clean (omega (arith, quiet.clean)) in omega (arith, r.folded.quiet.clean);
    left = λ clean db may.
        let on : HasCleanDisk (shown g new) = omega (arith, quiet.clean) in
        let o = r.opens on in
        inr (settled new.store db o.is_open (quiet.outcomes db may) ∙ sym (ap (λ (d : Database). d.trees) o.clean) ∙ r.same on);
  }

  module _ (epoch : ℕ) (docs : List Doc) (is_alone has_failed : Bool) (sound : IsSoundCopy g (record { conn = old; epoch = epoch; docs = docs; is_alone = is_alone; has_failed = has_failed })) where
    pub is_in_store : (last : S) → KeepsCommit g old last → has_failed ≡ false → is_alone ≡ true → StoreHas g (content epoch docs) last
    is_in_store last k works alone clean db may = elim (k.left clean db may) [
      | inl was ↦ sound.left works alone (k.was_clean clean) db was
      | inr is ↦ let s = sound.serves works alone (k.was_clean clean) in subst (Holds (content epoch docs)) (sym (is ∙ ap (λ (d : Database). d.trees) s.committed)) s.holds
    ]

    pub held : (last : S) → HasFolded g alone_in old last → has_failed ≡ false → is_alone ≡ true → FileHas g alone_in (content epoch docs) last
    held last f works alone clean =
        let s = sound.serves works alone (omega (arith, f.quiet.clean)) in
        ((g.view last).committed, f.alone clean, subst (Holds (content epoch docs)) (sym (f.same clean ∙ ap (λ (d : Database). d.trees) s.committed)) s.holds)

    pub still_held : (last : S) → HasFolded g alone_in old last → has_failed ≡ false → is_alone ≡ true → StoreHas g (content epoch docs) last
    still_held last f works alone clean db may = sound.left works alone (omega (arith, f.quiet.clean)) db (f.quiet.outcomes db may)

    pub serves_again : (new : Held S) → Reopens g alone_in old new → (is_alone ≡ true → (shown g new).now.schema ≡ copy_schema)
        → has_failed ≡ false → is_alone ≡ true → HasCleanDisk (shown g new) → IsOpenWith (content epoch docs) (shown g new)
    serves_again new r schema works alone clean =
        let on = r.still_clean clean in
        let s = sound.serves works alone (omega (arith, r.folded.quiet.clean)) in
        let o = r.opens clean in
        record {
          is_open = o.is_open;
          autocommit = o.autocommit;
          schema = schema alone;
          committed = sym o.clean;
          holds = subst (Holds (content epoch docs)) (sym (r.same clean ∙ ap (λ (d : Database). d.trees) s.committed)) s.holds;
        }

    pub was_alone : (new : Held S) → Reopens g alone_in old new → has_failed ≡ false → is_alone ≡ true → HasCleanDisk (shown g new) → WasAlone g alone_in (content epoch docs) old
    was_alone new r works alone clean =
        let on = r.still_clean clean in
        let s = sound.serves works alone (omega (arith, r.folded.quiet.clean)) in
        record {
          last = r.last;
          folded = r.folded;
          clean = on;
          holds = subst (Holds (content epoch docs)) (sym (r.folded.same on ∙ ap (λ (d : Database). d.trees) s.committed)) s.holds;
          left = still_held r.last r.folded works alone;
        }
