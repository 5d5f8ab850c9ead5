use Rattle.std.proofs.Common.{◌≡◌, Result, Ok, Err, refl, subst}
use Rattle.std.specs.Prelude.{⊤, MatchBool, OnOk, OnErr, is_ok}
use Rattle.doc_api.specs.Words.{Refusal, Op}
use Rattle.crdt_rules.specs.Fits.{Fits}
use Rattle.replica_core.specs.Whole.{Contents, with_logged}
use Rattle.replica_core.proofs.body.Body.release.Goals as goal

-- whether it was logged, by what logging answers
by_answer : (r : Result ⊤ Refusal) (op : Op) (b c : Contents) → Fits op b.log → OnOk r (c ≡ with_logged op b) → OnErr r (c ≡ b)
    → MatchBool (is_ok r) (Fits op b.log × (c ≡ with_logged op b)) (c ≡ b)
by_answer (Ok u) op b c fits ok err = (fits, ok)
by_answer (Err e) op b c fits ok err = err

pub append-requires : goal.append-requires
append-requires c = subst (Fits c.args.op) c.log.ensures.log (c.in-Ok.ensures.fits.0 refl)

pub returns-in-Ok : goal.returns-in-Ok
returns-in-Ok c =
    rw c.is_ok.ensures.value
    (by_answer c.append.result c.args.op c.args.self.now c.append.new.self (subst (Fits c.args.op) c.log.ensures.log (c.in-Ok.ensures.fits.0 refl)) c.append.ensures.ok
    c.append.ensures.same)
