use Rattle.std.proofs.Common.{◌≡◌, true, map, refl, ap₂, ◌∙◌}
use Rattle.clap.specs.Words.{app_of, is_simple, is_simple_and_free, with_rule}
use Rattle.command_line.specs.CommandLine.{check_command}
use Rattle.command_line.proofs.Parsed.{same_refused, same_rows, same_taken}
use Rattle.command_line.proofs.matches.check_matches.Goals as goal

is_free_check : is_simple_and_free check_command ≡ true
is_free_check = refl

is_simple_check : is_simple check_command ≡ true
is_simple_check = refl

command_is : (c : goal.After-try_get_matches_from) → app_of c.in_ok-command.command ≡ check_command
command_is c =
    c.in_ok-command.ensures.shape c.required_option.ensures.local ∙ ap₂ with_rule c.new.ensures.app c.required_option.ensures.rule

pub returns-clause-taken : goal.returns-clause-taken
returns-clause-taken c =
    same_taken (command_is c) (map (λ s. s.now) c.args.args.now) c.try_get_matches_from.result is_free_check c.try_get_matches_from.ensures.kinds

pub returns-clause-rows : goal.returns-clause-rows
returns-clause-rows c =
    same_rows (command_is c) (map (λ s. s.now) c.args.args.now) c.try_get_matches_from.result is_simple_check c.try_get_matches_from.ensures.matches

pub returns-clause-refused : goal.returns-clause-refused
returns-clause-refused c =
    same_refused (command_is c) (map (λ s. s.now) c.args.args.now) c.try_get_matches_from.result is_free_check c.try_get_matches_from.ensures.kinds
