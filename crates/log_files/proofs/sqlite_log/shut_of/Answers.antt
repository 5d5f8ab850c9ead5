use Rattle.std.proofs.Common.{sym, ap, ◌∙◌}
use Rattle.log_copy.specs.Again.{no_log, parts_log}
use Rattle.log_copy.specs.Port.{copied_log}
use Rattle.log_files.proofs.Held.{if_some_is}
use Rattle.log_files.proofs.sqlite_log.shut_of.Goals as goal

pub returns-in-Some-clause-some : goal.returns-in-Some-clause-some
returns-in-Some-clause-some c =
    let failed = rw c.in-Some.is at c.requires.failed in
    rw c.in-Some.is (c.shut_down.ensures ∙ ap (λ b. record (copied_log c.in-Some.log) { has_failed = b }) (sym failed))

pub returns-in-None-clause-some : goal.returns-in-None-clause-some
returns-in-None-clause-some c = rw c.in-None.is (if_some_is (λ s. parts_log s.parts) no_log c.args.shut)
