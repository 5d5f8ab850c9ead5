-- What a batch makes of documents.
use Rattle.std.proofs.Common.{◌≡◌, ◌≢◌, ◌==◌, ℕ, List, [], ◌∷◌, ◌++◌, length, append-nil, arith, Bool, true, false, cond, refl, Result, Ok, Err, OnOk, IfErr}
use borrow.Author.Tests.{eqb-true}
use Rattle.lamport_id.specs.Name.{is_name}
use Rattle.op_core.specs.Op.{Op}
use Rattle.crdt_rules.specs.Log.{IsGood}
use Rattle.stored_log.specs.Docs.{Doc, AreGood, IsBatch, add_batch, add_log, is_named, log_of}
use Rattle.stored_log.specs.declared.fault.Fault.{Fault}
use Rattle.stored_log.specs.declared.fault.Fault.TheVariants.{Store}
use Rattle.stored_log.proofs.DocLemmas.{still_good, still_in_order}
use Rattle.stored_log.specs.Batch.{MayAdd}
use Rattle.stored_log.specs.Image.{IsSoundImage}

pub some_from : {X : Type 0} (xs : List X) → (length xs == 0) ≡ false → xs ≢ []
some_from [] some = absurd cc
some_from (x ∷ xs) some = λ e. cc

pub batch_of_some : (name : List ℕ) (ops : List Op) (docs : List Doc) → ops ≢ [] → add_batch name ops docs ≡ add_log name ops docs
batch_of_some name [] docs some = absurd (some refl)
batch_of_some name (op ∷ ops) docs some = refl

good_log : (name : List ℕ) (docs : List Doc) → AreGood docs → IsGood (log_of name docs)
good_log name [] good = tt
good_log name (d ∷ docs) good = go (is_named name d) (good_log name docs good.1)
  where
    go : (b : Bool) → IsGood (log_of name docs) → IsGood (cond b d.log (log_of name docs))
    go true later = good.0.good
    go false later = later

pub empty_batch : (name : List ℕ) (from : ℕ) (ops : List Op) (docs : List Doc) → MayAdd name from ops docs → AreGood docs → (length ops == 0) ≡ true → IsBatch name from ops docs
empty_batch name from [] docs may good none = record { named = may.0; few = may.2; next = may.1; good = rw append-nil (good_log name docs good) }
empty_batch name from (op ∷ ops) docs may good none = absurd (let e : length (op ∷ ops) ≡ 0 = eqb-true (length (op ∷ ops)) 0 none in omega arith)

-- documents that got a batch, or stayed as they were
pub still_sound : (epoch : ℕ) (name : List ℕ) (ops : List Op) (docs now : List Doc) → is_name name ≡ true → ops ≢ [] → IsSoundImage (record { epoch = epoch; docs = docs }) → (r : Result (Unit {0}) Fault)
    → OnOk r ((now ≡ add_log name ops docs) × IsGood (log_of name docs ++ ops)) → IfErr r (λ e. (now ≡ docs) × (e ≢ Store)) → IsSoundImage (record { epoch = epoch; docs = now })
still_sound epoch name ops docs now named some was (Ok x) ok err =
    rw ok.0 (record { given_out = was.given_out; in_order = still_in_order name ops docs was.in_order; good = still_good name ops docs named some was.good ok.1 })
still_sound epoch name ops docs now named some was (Err e) ok err = rw err.0 was
