use Rattle.line_proto.specs.declared.request.DocRequest.TheVariants as ask
use Rattle.session_core.proofs.Served.{served_as}
use Rattle.session_core.proofs.open_document.OpenDocument.perform.Goals as goal

pub returns-in-State : goal.returns-in-State
returns-in-State g c =
    served_as g.A.DocAccess c.args.access.now c.read.new.access c.args.self.now c.read.new.self c.read.result c.args.ask (ask.State c.in-State.state) c.in-State.is c.read.ensures

pub returns-in-Change : goal.returns-in-Change
returns-in-Change g c =
    served_as g.A.DocAccess c.args.access.now c.change.new.access c.args.self.now c.change.new.self c.change.result c.args.ask (ask.Change c.in-Change.expr c.in-Change.mutation) c.in-Change.is c.change.ensures

pub returns-in-Look : goal.returns-in-Look
returns-in-Look g c =
    served_as g.A.DocAccess c.args.access.now c.look_at.new.access c.args.self.now c.look_at.new.self c.look_at.result c.args.ask (ask.Look c.in-Look.expr c.in-Look.look) c.in-Look.is c.look_at.ensures

pub returns-in-Let : goal.returns-in-Let
returns-in-Let g c =
    served_as g.A.DocAccess c.args.access.now c.bind_expr.new.access c.args.self.now c.bind_expr.new.self c.bind_expr.result c.args.ask (ask.Let c.in-Let.name c.in-Let.expr) c.in-Let.is c.bind_expr.ensures

pub returns-in-Deliver : goal.returns-in-Deliver
returns-in-Deliver g c =
    served_as g.A.DocAccess c.args.access.now c.act.new.access c.args.self.now c.act.new.self c.act.result c.args.ask (ask.Deliver c.in-Deliver.op) c.in-Deliver.is c.act.ensures

pub returns-in-Operations : goal.returns-in-Operations
returns-in-Operations g c =
    served_as g.A.DocAccess c.args.access.now c.read-in-Operations.new.access c.args.self.now c.read-in-Operations.new.self c.read-in-Operations.result c.args.ask (ask.Operations c.in-Operations.front c.in-Operations.limit) c.in-Operations.is c.read-in-Operations.ensures

pub returns-in-Chains : goal.returns-in-Chains
returns-in-Chains g c =
    served_as g.A.DocAccess c.args.access.now c.read-in-Chains.new.access c.args.self.now c.read-in-Chains.new.self c.read-in-Chains.result c.args.ask (ask.Chains c.in-Chains.after c.in-Chains.front) c.in-Chains.is c.read-in-Chains.ensures

pub returns-in-IsCopied : goal.returns-in-IsCopied
returns-in-IsCopied g c =
    served_as g.A.DocAccess c.args.access.now c.read-in-IsCopied.new.access c.args.self.now c.read-in-IsCopied.new.self c.read-in-IsCopied.result c.args.ask (ask.IsCopied c.in-IsCopied.id) c.in-IsCopied.is c.read-in-IsCopied.ensures

pub returns-in-Forget : goal.returns-in-Forget
returns-in-Forget g c =
    served_as g.A.DocAccess c.args.access.now c.act-in-Forget.new.access c.args.self.now c.act-in-Forget.new.self c.act-in-Forget.result c.args.ask (ask.Forget c.in-Forget.id) c.in-Forget.is c.act-in-Forget.ensures
