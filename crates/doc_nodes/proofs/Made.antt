-- What growth makes, step by step.
use Rattle.std.proofs.Common.{◌≡◌, List, [], ◌∷◌, ◌++◌, Option, Some, refl, sym, ap, ◌∙◌, subst, true}
use Rattle.std.specs.Prelude.{IsSome, option_and_then}
use Rattle.op_core.specs.declared.cursor.Key.{Key}
use Rattle.doc_nodes.specs.declared.node.NodeNumber.{NodeNumber}
use Rattle.doc_nodes.specs.declared.node.Node.{Node}
use Rattle.doc_nodes.specs.Walk.{walk}
use Rattle.doc_nodes.specs.Nodes.{node_of, child_of}
use Rattle.doc_nodes.specs.Growth.{Grows, IsMade}
use Rattle.doc_nodes.proofs.Walks.{parts_of}

pub made_end : (nodes : List Node) (n : NodeNumber) → (node_of nodes n).presence.1 ≡ true → IsMade nodes n []
made_end nodes n room = record { reached = refl; room = at }
  where
    at : (front rest : List Key) (j : NodeNumber) → [] ≡ front ++ rest → walk (child_of nodes) n front ≡ Some j → (node_of nodes j).presence.1 ≡ true
    at [] rest j e w = let same : n ≡ j = cc in subst (λ z. (node_of nodes z).presence.1 ≡ true) same room
    at (k ∷ front) rest j e w = absurd (cc)

-- room in a node stays
pub room_kept : (old new : List Node) → Grows old new → (n : NodeNumber) → (node_of old n).presence.1 ≡ true
    → (node_of new n).presence.1 ≡ true
room_kept old new grows n room = grows.presence_room n room

pub made_step : (nodes : List Node) (n c : NodeNumber) (k : Key) (keys : List Key) → (node_of nodes n).presence.1 ≡ true
    → child_of nodes n k ≡ Some c → IsMade nodes c keys → IsMade nodes n (k ∷ keys)
made_step nodes n c k keys room down made = record { reached = subst (λ o. IsSome (option_and_then (λ m. walk (child_of nodes) m keys) o)) (sym down) made.reached; room = at }
  where
    at : (front rest : List Key) (j : NodeNumber) → k ∷ keys ≡ front ++ rest → walk (child_of nodes) n front ≡ Some j → (node_of nodes j).presence.1 ≡ true
    at [] rest j e w = let same : n ≡ j = cc in subst (λ z. (node_of nodes z).presence.1 ≡ true) same room
    at (q ∷ front) rest j e w =
        let first : k ≡ q = cc in
        let more : keys ≡ front ++ rest = cc in
        let step = parts_of (child_of nodes) (λ m. walk (child_of nodes) m front) (child_of nodes n q) j w in
        let both : ◌≡◌ {A = Option NodeNumber} (Some c) (Some step.0) = sym down ∙ ap (child_of nodes n) first ∙ step.1 in
        let same : c ≡ step.0 = cc in
        made.room front rest j more (subst (λ z. walk (child_of nodes) z front ≡ Some j) (sym same) step.2)
