use Rattle.std.proofs.Common.{◌≡◌, true, map, refl}
use Rattle.clap.specs.Words.{is_simple, is_simple_and_free}
use Rattle.command_line.specs.CommandLine.{serve_command}
use Rattle.command_line.proofs.Parsed.{same_refused, same_rows, same_taken}
use Rattle.command_line.proofs.matches.serve_matches.Goals as goal

is_free_serve : is_simple_and_free serve_command ≡ true
is_free_serve = refl

is_simple_serve : is_simple serve_command ≡ true
is_simple_serve = refl

pub returns-clause-taken : goal.returns-clause-taken
returns-clause-taken c =
    same_taken c.in_ok-server_command.ensures (map (λ s. s.now) c.args.args.now) c.try_get_matches_from.result is_free_serve c.try_get_matches_from.ensures.kinds

pub returns-clause-rows : goal.returns-clause-rows
returns-clause-rows c =
    same_rows c.in_ok-server_command.ensures (map (λ s. s.now) c.args.args.now) c.try_get_matches_from.result is_simple_serve c.try_get_matches_from.ensures.matches

pub returns-clause-refused : goal.returns-clause-refused
returns-clause-refused c =
    same_refused c.in_ok-server_command.ensures (map (λ s. s.now) c.args.args.now) c.try_get_matches_from.result is_free_serve c.try_get_matches_from.ensures.kinds
