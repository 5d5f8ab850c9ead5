use Rattle.command_line.specs.CommandLine.{server_of}
use Rattle.commands.proofs.Closed.{serves_opened}
use Rattle.commands.proofs.Few.{few_documents}
use Rattle.commands.proofs.serve.parse_and_serve.Goals as goal

pub listen_and_serve-requires-clause-few : goal.listen_and_serve-requires-clause-few
listen_and_serve-requires-clause-few g c κs within =
    few_documents c.in-Ok.asked.name.now c.in-Ok.asked.documents.items c.in-Ok.ensures.asked.named.good

pub returns-in-Ok-clause-served : goal.returns-in-Ok-clause-served
returns-in-Ok-clause-served g c = λ zero.
    let wanted = server_of c.in-Ok.asked in (
      wanted,
      c.in-Ok.ensures.asked,
      serves_opened _ g.O.OpenLog.finds c.open.result wanted.name wanted.documents wanted.terms.sessions wanted.terms.stays _ _
          c.open.ensures.found (c.listen_and_serve.ensures.served zero),
    )
