use Rattle.std.proofs.Common.{rules, ◌≡◌, ◌||◌, ◌∙◌, Bool, List, [], ◌∷◌, refl, ap}
use Rattle.std.specs.List.{list_any}
use Rattle.lamport_id.specs.declared.id.Id.{Id}
use Rattle.crdt_rules.specs.Same.{id_eq}
use Rattle.crdt_rules.proofs.SameLaws.{eq_comm, id_decides}
use Rattle.list_order.specs.Entries.{ids_of}
use Rattle.doc_nodes.specs.Nodes.{node_of}
use Rattle.doc_tree.proofs.tree.Tree.has_element_of.Goals as goal

-- either way round
either_way : (i : Id) (entries : List (Id × Bool)) → list_any (λ e. id_eq e.0 i) entries ≡ list_any (id_eq i) (ids_of entries)
either_way i [] = refl
either_way i (e ∷ entries) = (λ k. eq_comm id_decides e.0 i k || either_way i entries k)

pub returns-in-Some : goal.returns-in-Some
returns-in-Some c =
    let node : c.in-Some.node.now ≡ node_of c.args.self.now.0 c.args.at = search rules in
    c.contains.ensures ∙ either_way c.args.id.now c.in-Some.node.now.order.0 ∙ ap (λ z. list_any (id_eq c.args.id.now) (ids_of z.order.0)) node
