use Rattle.std.proofs.Common.{subst, ◌∙◌}
use Rattle.std.specs.Prelude.{IfSome}
use Rattle.doc_view.specs.OnWay.{IsOnWay}
use Rattle.doc_view.proofs.OnWay.{list_on_way}
use Rattle.doc_view.proofs.known_node.list_from.Goals as goal

pub returns-in-Some : goal.returns-in-Some
returns-in-Some c =
    let tree = c.args.tree.now in
    let path = c.args.path.now in
    c.list_below.ensures ∙ list_on_way tree path c.in-Some.known (subst (λ known. IfSome known (IsOnWay tree path)) c.in-Some.is c.requires)
