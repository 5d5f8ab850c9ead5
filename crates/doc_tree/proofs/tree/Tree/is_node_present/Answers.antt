use Rattle.std.proofs.Common.{rules, ◌≡◌, ◌∙◌, List, [], ◌∷◌, Bool, true, false, not, refl, ap}
use Rattle.std.specs.Prelude.{◌↔◌, IsTrue}
use Rattle.doc_api.specs.Words.{Id}
use Rattle.doc_api.specs.declared.role.Role.{Role}
use Rattle.doc_nodes.specs.Nodes.{node_of}
use Rattle.doc_nodes.specs.ListPresence.{is_some_entry}
use Rattle.doc_tree.proofs.tree.Tree.is_node_present.Goals as goal

some_decided : (entries : List (Id × Role)) (b : Bool) → IsTrue b ↔ (entries ≡ []) → not b ≡ is_some_entry entries
some_decided [] b h = ap not (h.1 refl)
some_decided (e ∷ entries) true h = let void : ◌≡◌ {A = List (Id × Role)} (e ∷ entries) [] = h.0 refl in absurd (cc)
some_decided (e ∷ entries) false h = refl

pub returns-in-Some : goal.returns-in-Some
returns-in-Some c =
    let read : c.in-Some.node.now ≡ node_of c.args.self.now.0 c.args.at = search rules in
    some_decided c.in-Some.node.now.presence.0 c.is_empty.result c.is_empty.ensures ∙ ap (λ z. is_some_entry z.presence.0) read
