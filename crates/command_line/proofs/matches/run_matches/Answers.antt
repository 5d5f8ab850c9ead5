use Rattle.std.proofs.Common.{◌≡◌, true, map, refl, ap₂, ◌∙◌}
use Rattle.clap.specs.Words.{app_of, is_simple, is_simple_and_free, with_rule}
use Rattle.command_line.specs.CommandLine.{run_command}
use Rattle.command_line.proofs.Parsed.{same_refused, same_rows, same_taken}
use Rattle.command_line.proofs.matches.run_matches.Goals as goal

is_free_run : is_simple_and_free run_command ≡ true
is_free_run = refl

is_simple_run : is_simple run_command ≡ true
is_simple_run = refl

command_is : (c : goal.After-try_get_matches_from) → app_of c.in_ok-command.command ≡ run_command
command_is c =
    let named = c.in_ok-arg.ensures.shape c.optional.ensures.local ∙ ap₂ with_rule c.new.ensures.app c.optional.ensures.rule in
    c.in_ok-command.ensures.shape c.documents_argument.ensures.local ∙ ap₂ with_rule named c.documents_argument.ensures.rule

pub returns-clause-taken : goal.returns-clause-taken
returns-clause-taken c =
    same_taken (command_is c) (map (λ s. s.now) c.args.args.now) c.try_get_matches_from.result is_free_run c.try_get_matches_from.ensures.kinds

pub returns-clause-rows : goal.returns-clause-rows
returns-clause-rows c =
    same_rows (command_is c) (map (λ s. s.now) c.args.args.now) c.try_get_matches_from.result is_simple_run c.try_get_matches_from.ensures.matches

pub returns-clause-refused : goal.returns-clause-refused
returns-clause-refused c =
    same_refused (command_is c) (map (λ s. s.now) c.args.args.now) c.try_get_matches_from.result is_free_run c.try_get_matches_from.ensures.kinds
