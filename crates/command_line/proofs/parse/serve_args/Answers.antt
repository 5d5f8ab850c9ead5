use Rattle.command_line.proofs.parse.serve_args.Goals as goal

pub returns-in-None-pace_in-clause-refused : goal.returns-in-None-pace_in-clause-refused
returns-in-None-pace_in-clause-refused c = λ _ wanted named. c.in-None-pace_in.ensures wanted.pace named.paced
