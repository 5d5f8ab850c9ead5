use Rattle.std.proofs.Common.{◌≡◌, ap, subst, sym, ◌∙◌, ◌++◌, ◌∷◌, [], List}
use Rattle.op_core.specs.Op.{Op}
use Rattle.crdt_rules.specs.Fits.{Fits}
use Rattle.op_log.specs.Log.{Log}
use Rattle.doc_rules.proofs.Roles.{are_of_same, are_of_next}
use Rattle.replica_core.specs.AgreesWith.{AgreesWith}
use Rattle.replica_core.proofs.Knowing.{knows_reference, is_new_element}
use Rattle.replica_core.proofs.log_op.log_op.Goals as goal
use Rattle.replica_core.proofs.log_op.log_op.Goals.{then-is_err-via-then-is_err, then-is_err-via-else-is_err+then-is_err-2}

kept : (c : goal.After-drop-op) → c.then-is_err.log.operations ≡ c.args.log.now.operations
kept c =
    elim c.then-is_err.branch [
      | then-is_err-via-then-is_err w ↦ ap (λ (l : Log). l.operations) w.log-is
      | then-is_err-via-else-is_err+then-is_err-2 w ↦ ap (λ (l : Log). l.operations) w.log-is ∙ w.reserve.ensures.operations
    ]

pub returns-then-is_err-clause-kept : goal.returns-then-is_err-clause-kept
returns-then-is_err-clause-kept c = kept c

pub returns-then-is_err-clause-agrees : goal.returns-then-is_err-clause-agrees
returns-then-is_err-clause-agrees c =
    subst (AgreesWith c.prepare.new.self) (sym (kept c)) (are_of_same c.requires.agrees c.prepare.ensures.facts c.prepare.ensures.roles)

pub commit-requires-clause-reference : goal.commit-requires-clause-reference
commit-requires-clause-reference c =
    knows_reference c.prepare.new.self (are_of_same c.requires.agrees c.prepare.ensures.facts c.prepare.ensures.roles) c.args.op c.keeps_good.ensures c.requires.fits

pub commit-requires-clause-new : goal.commit-requires-clause-new
commit-requires-clause-new c =
    is_new_element c.prepare.new.self (are_of_same c.requires.agrees c.prepare.ensures.facts c.prepare.ensures.roles) c.args.op c.keeps_good.ensures c.requires.fits

pub append-requires-clause-fits : goal.append-requires-clause-fits
append-requires-clause-fits c = subst (Fits c.args.op) (sym c.reserve.ensures.operations) c.requires.fits

pub returns-clause-ok : goal.returns-clause-ok
returns-clause-ok c = c.append.ensures.operations ∙ ap (λ (l : List Op). l ++ c.args.op ∷ []) c.reserve.ensures.operations

pub returns-clause-agrees : goal.returns-clause-agrees
returns-clause-agrees c =
    let next = are_of_next (are_of_same c.requires.agrees c.prepare.ensures.facts c.prepare.ensures.roles) c.args.op c.keeps_good.ensures c.requires.fits
    c.commit.ensures.facts c.commit.ensures.roles in
    subst (AgreesWith c.commit.new.self) (sym (c.append.ensures.operations ∙ ap (λ (l : List Op). l ++ c.args.op ∷ []) c.reserve.ensures.operations)) next
