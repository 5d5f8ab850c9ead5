-- What `LogCopy` is to the port of the stored log.
use Rattle.std.specs.Prelude.{◌≡◌, ℕ, true, false, List, Option, Some, None, MatchOption, refl, option_map, unwrap_or}
use Rattle.std.proofs.Common.{ap, sym, arith, ◌∙◌}
use Rattle.sqlite.specs.Tree.{Trees}
use Rattle.sqlite.specs.Store.{Ghosts}
use Rattle.sqlite.specs.Held.{state}
use Rattle.sqlite.specs.State.{HasCleanDisk}
use Rattle.stored_rows.specs.Content.{Holds}
use Rattle.stored_log.specs.Docs.{Doc}
use Rattle.stored_log.specs.Log.{HasSame, IsRaisedOrNot, KeepsAll, LogState, raised_keeps}
use Rattle.sqlite_trees.specs.View.{IsClean}
use Rattle.log_copy.specs.Folded.{HasFolded, FileHas, StoreHas, WasAlone}
use Rattle.log_copy.specs.Kept.{Kept, content}

abbrev pub copied_log : {S : Type 0} → Kept S → LogState
copied_log c = record { epoch = c.epoch; docs = c.docs; is_alone = c.is_alone; has_failed = c.has_failed }

-- these tables hold such an epoch and documents
pub record HasSuch (such : ℕ → List Doc → Type 0) (db : Trees) : Type 0 where
  pub epoch : ℕ
  pub docs : List Doc
  pub is_such : such epoch docs
  pub holds : Holds (content epoch docs) db

-- a log under a new epoch, or the one before, keeps what that one kept
pub keeps_such : (first last : LogState) → KeepsAll first last.epoch last.docs → (db : Trees)
    → HasSuch (IsRaisedOrNot last) db → HasSuch (KeepsAll first) db
keeps_such first last kept db h = record {
  epoch = h.epoch;
  docs = h.docs;
  is_such = raised_keeps first last kept h.epoch h.docs h.is_such;
  holds = h.holds;
}

-- these tables hold what the log has
pub same_such : {S : Type 0} (c : Kept S) {db : Trees} → Holds (content c.epoch c.docs) db
    → HasSuch (HasSame (copied_log c)) db
same_such c holds = record {
  epoch = c.epoch;
  docs = c.docs;
  is_such = record { same_epoch = refl; same_docs = refl };
  holds = holds;
}

-- what holds of a log that may be there goes on to hold
pub if_there : {X : Type 0} {P Q : X → Type 0} (it : Option X) → ((x : X) → P x → Q x)
    → MatchOption it ⊥ P → MatchOption it ⊥ Q
if_there (Some x) goes_on holds = goes_on x holds
if_there None goes_on holds = holds

module _ {S : Type 0} (g : Ghosts S) where
  -- The database has only our tables, and the disk returned what was written.
  abbrev pub IsSure : Kept S → Type 0
  IsSure c = (c.is_alone ≡ true) × HasCleanDisk (state g c.conn)

  -- In a database with only our tables, whatever a crash leaves holds such an epoch and documents.
  abbrev pub CrashLeaves : Kept S → (ℕ → List Doc → Type 0) → Type 0
  CrashLeaves c such = c.is_alone ≡ true → HasCleanDisk (state g c.conn) → (db : Trees)
      → (state g c.conn).may_leave db → HasSuch such db

  -- Whatever a crash leaves of the store holds the epoch and the documents.
  abbrev pub IsInStore : Kept S → S → Type 0
  IsInStore c last = c.is_alone ≡ true → StoreHas g (content c.epoch c.docs) last

  -- Whatever a crash leaves of the store holds such an epoch and documents.
  abbrev pub StoreLeaves : S → (ℕ → List Doc → Type 0) → Type 0
  StoreLeaves last such = IsClean (g.view last) → (db : Trees) → g.recovers last db → HasSuch such db

  module _ (holds_alone : S → Trees → Type 0) where
    -- The new one has what the old one has, which in between the database file alone held.
    pub record WasInFile (old new : Kept S) : Type 0 where
      pub same : copied_log new ≡ copied_log old
      pub between : old.is_alone ≡ true → HasCleanDisk (state g new.conn)
          → WasAlone g holds_alone (content old.epoch old.docs) old.conn

    -- The database file alone holds the epoch and the documents, and a crash leaves them.
    abbrev pub IsInFile : Kept S → S → Type 0
    IsInFile c last = c.is_alone ≡ true
        → FileHas g holds_alone (content c.epoch c.docs) last × StoreHas g (content c.epoch c.docs) last

    -- It holds what was last committed, also beside other tables and after a fault. Where nothing
    -- failed, that is the epoch and the documents.
    pub record HasMoved (c : Kept S) (last : S) : Type 0 where
      pub folded : HasFolded g holds_alone c.conn last
      pub has_all : c.has_failed ≡ false → IsInStore c last

    pub still_leaves : (such : ℕ → List Doc → Type 0) (c : Kept S) (last : S) → HasMoved c last → c.is_alone ≡ true
        → CrashLeaves c such → StoreLeaves last such
    still_leaves such c last moved alone left clean db may =
        let quiet = moved.folded.quiet in left alone (omega (arith, quiet.clean)) db (quiet.outcomes db may)

    -- In between there was a store as a closed log leaves it.
    pub was_left : (old new : Kept S) → WasInFile old new → IsSure new → (last : S) × IsInFile old last × HasMoved old last
    was_left old new was sure =
        let alone = ap (λ (log : LogState). log.is_alone) (sym was.same) ∙ sure.0 in
        let then = was.between alone sure.1 in (
          then.last,
          (λ _. ((λ clean. ((g.view then.last).committed, then.folded.alone clean, then.holds)), then.left)),
          record { folded = then.folded; has_all = λ works _. then.left },
        )

-- the same, where what the log has moved to, or was in, says which store it is
module _ {S : Type 0} {g : Ghosts S} {holds_alone : S → Trees → Type 0} where
  pub leaves_moved : (such : ℕ → List Doc → Type 0) (c : Kept S) (last : S) → HasMoved g holds_alone c last
      → c.is_alone ≡ true → CrashLeaves g c such → StoreLeaves g last such
  leaves_moved = still_leaves g holds_alone

  pub was_in : (old new : Kept S) → WasInFile g holds_alone old new → IsSure g new
      → (last : S) × IsInFile g holds_alone old last × HasMoved g holds_alone old last
  was_in = was_left g holds_alone

-- ---- where the log or the store may not be there

-- what the log has, or else this
abbrev pub log_or : {S : Type 0} → Option (Kept S) → LogState → LogState
log_or it rest = unwrap_or (option_map copied_log it) rest

-- what a store has of a log that is there, it leaves
pub same_there : {S : Type 0} (P : Kept S → S → Type 0) (Q : S → (ℕ → List Doc → Type 0) → Type 0)
    (it : Option (Kept S)) (last : Option S) (rest : LogState)
    → ((c : Kept S) (f : S) → P c f → c.is_alone ≡ true → Q f (HasSame (copied_log c)))
    → MatchOption it ⊥ (λ c. MatchOption last ⊥ (λ f. P c f)) → (log_or it rest).is_alone ≡ true
    → MatchOption last ⊥ (λ f. Q f (HasSame (log_or it rest)))
same_there P Q (Some c) (Some f) rest leaves is alone = leaves c f is alone
same_there P Q (Some c) None rest leaves is alone = is
same_there P Q None last rest leaves is alone = absurd is

module _ {S : Type 0} (g : Ghosts S) where
  module _ (holds_alone : S → Trees → Type 0) where
    pub all_there : (it : Option (Kept S)) (last : Option S) (rest : LogState)
        → MatchOption it ⊥ (λ c. MatchOption last ⊥ (λ f. HasMoved g holds_alone c f)) → (log_or it rest).has_failed ≡ false
        → MatchOption it ⊥ (λ c. MatchOption last ⊥ (λ f. IsInStore g c f))
    all_there (Some c) (Some f) rest moved works = moved.has_all works
    all_there (Some c) None rest moved works = moved
    all_there None last rest moved works = moved

    pub leaves_there : (such : ℕ → List Doc → Type 0) (it : Option (Kept S)) (last : Option S) (rest : LogState)
        → MatchOption it ⊥ (λ c. MatchOption last ⊥ (λ f. HasMoved g holds_alone c f)) → (log_or it rest).is_alone ≡ true
        → MatchOption it ⊥ (λ c. CrashLeaves g c such) → MatchOption last ⊥ (λ f. StoreLeaves g f such)
    leaves_there such (Some c) (Some f) rest moved alone left = still_leaves g holds_alone such c f moved alone left
    leaves_there such (Some c) None rest moved alone left = moved
    leaves_there such None last rest moved alone left = absurd moved

    pub still_there : (old new : Option (Kept S)) (rest other : LogState)
        → MatchOption old ⊥ (λ c. MatchOption new ⊥ (λ d. WasInFile g holds_alone c d)) → log_or new other ≡ log_or old rest
    still_there (Some c) (Some d) rest other was = was.same
    still_there (Some c) None rest other was = absurd was
    still_there None new rest other was = absurd was

    pub left_there : (old new : Option (Kept S)) → MatchOption old ⊥ (λ c. MatchOption new ⊥ (λ d. WasInFile g holds_alone c d))
        → MatchOption new ⊥ (λ d. IsSure g d) → (last : S) × MatchOption old ⊥ (λ c. IsInFile g holds_alone c last)
        × MatchOption old ⊥ (λ c. HasMoved g holds_alone c last)
    left_there (Some c) (Some d) was sure = was_left g holds_alone c d was sure
    left_there (Some c) None was sure = absurd was
    left_there None new was sure = absurd was
