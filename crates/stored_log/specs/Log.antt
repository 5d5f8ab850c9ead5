-- What a stored log has.
use Rattle.std.specs.Prelude.{◌≡◌, ◌⊎◌, ◌+◌, ◌≤◌, ℕ, Bool, false, List, length}
use Rattle.std.proofs.Common.{inl, inr, le_trans, le-add_right, subst, sym, ◌∙◌}
use Rattle.op_core.specs.Op.{Op}
use Rattle.stored_log.specs.Docs.{AreSound, Doc, IsBatch, add_batch, log_of}

pub record LogState : Type 0 where
  -- the last epoch that was given out, 0 if none was
  pub epoch : ℕ
  -- the documents with entries, in the order of their names
  pub docs : List Doc
  -- nothing else is stored beside it; what is promised of crashes is promised then
  pub is_alone : Bool
  -- a call has failed, and each later one fails
  pub has_failed : Bool

-- a log has the epoch and the documents of another
pub record HasSame (it : LogState) (epoch : ℕ) (docs : List Doc) : Type 0 where
  pub same_epoch : epoch ≡ it.epoch
  pub same_docs : docs ≡ it.docs

-- What a crash leaves is something, and it has one epoch and one list of documents.
pub record LeavesOne (leaves : (ℕ → List Doc → Type 0) → Type 0) : Type 0 where
  pub some : leaves (λ _ _. ⊥) → ⊥
  pub one_epoch : (it other : LogState) → leaves (HasSame it) → leaves (HasSame other) → it.epoch ≡ other.epoch
  pub one_docs : (it other : LogState) → leaves (HasSame it) → leaves (HasSame other)
      → AreSound it.docs → AreSound other.docs → it.docs ≡ other.docs

-- it has the other's documents, under its epoch or the next
pub record IsRaisedOrNot (it : LogState) (epoch : ℕ) (docs : List Doc) : Type 0 where
  pub raised_or_not : (epoch ≡ it.epoch) ⊎ (epoch ≡ it.epoch + 1)
  pub same_docs : docs ≡ it.docs

-- it has the other's epoch and documents, with all of a batch or with none of it
pub record IsAddedOrNot (name : List ℕ) (ops : List Op) (it : LogState) (epoch : ℕ) (docs : List Doc) : Type 0 where
  pub same_epoch : epoch ≡ it.epoch
  pub added_or_not : (docs ≡ it.docs) ⊎ (docs ≡ add_batch name ops it.docs)

-- What a log shows after a batch that failed: it has what it had, or the whole batch besides, which
-- fits.
pub record ShowsBatchOrNot (name : List ℕ) (from : ℕ) (ops : List Op) (old new : LogState) : Type 0 where
  pub same_epoch : new.epoch ≡ old.epoch
  pub added_or_not : (new.docs ≡ old.docs) ⊎ (IsBatch name from ops old.docs × (new.docs ≡ add_batch name ops old.docs))

-- The log works again, and has the whole batch that failed behind so many entries: it showed the
-- batch before, or it was added.
pub record HasBatchAgain (name : List ℕ) (from : ℕ) (ops : List Op) (old new : LogState) : Type 0 where
  pub same_epoch : new.epoch ≡ old.epoch
  pub works : new.has_failed ≡ false
  pub whole : ((new.docs ≡ old.docs) × (length (log_of name old.docs) ≡ from + length ops))
      ⊎ (IsBatch name from ops old.docs × (new.docs ≡ add_batch name ops old.docs))

-- it has the other's documents, under an epoch that is not smaller
pub record KeepsAll (it : LogState) (epoch : ℕ) (docs : List Doc) : Type 0 where
  pub no_less : it.epoch ≤ epoch
  pub same_docs : docs ≡ it.docs

-- what keeps all behind a new epoch keeps what was kept before it
pub raised_keeps : (first last : LogState) → KeepsAll first last.epoch last.docs
    → (epoch : ℕ) (docs : List Doc) → IsRaisedOrNot last epoch docs → KeepsAll first epoch docs
raised_keeps first last kept epoch docs raised = record { no_less = grows raised.raised_or_not; same_docs = raised.same_docs ∙ kept.same_docs }
  where
    grows : (epoch ≡ last.epoch) ⊎ (epoch ≡ last.epoch + 1) → first.epoch ≤ epoch
    grows (inl same) = subst (λ e. first.epoch ≤ e) (sym same) kept.no_less
    grows (inr next) = subst
        (λ e. first.epoch ≤ e) (sym next) (le_trans kept.no_less (le-add_right last.epoch 1))
