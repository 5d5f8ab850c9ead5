use Rattle.std.proofs.Common.{◌≡◌, ◌∙◌, ◌<◌, [], ◌∷◌, length, sym, ap, subst, refl, Option, Some, arith}
use Rattle.std.proofs.lemmas.List.{nil_from_length}
use Rattle.op_core.specs.Shape.{key_of}
use Rattle.doc_nodes.specs.Nodes.{node_of, child_of}
use Rattle.crdt_rules.specs.Context.{reference}
use Rattle.doc_api.specs.declared.role.Role.TheVariants.{Through}
use Rattle.doc_nodes.specs.declared.node.NodeNumber.{NodeNumber}
use Rattle.doc_nodes.specs.Walk.{walk}
use Rattle.doc_nodes.specs.PresenceAlong.{made_present, keys_below, AddsPresenceAlong, IsReady}
use Rattle.doc_nodes.specs.ListPresence.{plain, with_list_presence, ShowsPresenceBut, KeepsBlocks}
use Rattle.doc_nodes.proofs.AddingPresence.{step_down, child_before, shape-set}
use Rattle.doc_nodes.proofs.Passing.{walk_on, added_end, shows_presence_end, candidate_end, added_passed, shows_presence_passed, candidate_passed}
use Rattle.doc_nodes.proofs.ListPresence.{blocks-facts, blocks-shows_but}
use Rattle.doc_nodes.proofs.presence.+add_presence_below.Goals as goal

pub add_presence-requires-clause-room : goal.add_presence-requires-clause-room
add_presence-requires-clause-room t c = c.requires.room [] (keys_below c.args.way.now c.args.key.now) c.args.at refl refl

pub add_presence-requires-in-None-clause-room : goal.add_presence-requires-in-None-clause-room
add_presence-requires-in-None-clause-room t c =
    let ready : IsReady c.args.nodes.now c.args.at (keys_below c.args.way.now c.args.key.now) =
    record { tree = c.requires.tree; within = c.requires.known; reached = c.requires.reached; room = c.requires.room } in
    let last : keys_below c.args.way.now c.args.key.now ≡ c.args.key.now ∷ [] = ap (λ w. keys_below w c.args.key.now) (nil_from_length c.args.way.now c.in-None.ensures.cases) in
    let at_end = step_down c.args.id.now c.args.nodes.now c.add_presence.new.nodes c.args.at c.known_child-end.result c.args.key.now []
    (subst (λ l. IsReady c.args.nodes.now c.args.at l) last ready) c.add_presence.ensures c.known_child-end.ensures in
    at_end.room [] [] c.known_child-end.result refl refl

pub add_presence_below-requires : goal.add_presence_below-requires
add_presence_below-requires t c =
    let ready : IsReady c.args.nodes.now c.args.at (keys_below c.args.way.now c.args.key.now) =
    record { tree = c.requires.tree; within = c.requires.known; reached = c.requires.reached; room = c.requires.room } in
    let way : keys_below c.args.way.now c.args.key.now ≡ key_of c.in-Some.next.now ∷ keys_below c.in-Some.rest.now c.args.key.now =
    ap (λ w. keys_below w c.args.key.now) c.in-Some.ensures.cases.0 in
    let down : child_of c.add_presence.new.nodes c.args.at (key_of c.in-Some.next.now) ≡ Some c.known_child-below.result =
    ap (child_of c.add_presence.new.nodes c.args.at) (sym c.key.ensures) ∙ c.known_child-below.ensures in
    let below = step_down c.args.id.now c.args.nodes.now c.add_presence.new.nodes c.args.at c.known_child-below.result (key_of c.in-Some.next.now) (keys_below c.in-Some.rest.now c.args.key.now)
    (subst (λ l. IsReady c.args.nodes.now c.args.at l) way ready) c.add_presence.ensures down in
    (omega (arith, c.in-Some.ensures.cases.1), (below.tree, (below.within, (below.reached, below.room))))

pub returns-in-None-clause-added : goal.returns-in-None-clause-added
returns-in-None-clause-added t c =
    let id = c.args.id.now in
    let nodes = c.args.nodes.now in
    let mid = c.add_presence.new.nodes in
    let last = c.add_presence-in-None.new.nodes in
    let end = c.known_child-end.result in
    let key = c.args.key.now in
    let ready : IsReady nodes c.args.at (keys_below c.args.way.now key) =
    record { tree = c.requires.tree; within = c.requires.known; reached = c.requires.reached; room = c.requires.room } in
    let keys : keys_below c.args.way.now key ≡ key ∷ [] = ap (λ w. keys_below w key) (nil_from_length c.args.way.now c.in-None.ensures.cases) in
    let at_end = step_down id nodes mid c.args.at end key [] (subst (λ l. IsReady nodes c.args.at l) keys ready) c.add_presence.ensures c.known_child-end.ensures in
    let is : c.update_list_presence.new.nodes ≡ with_list_presence last c.args.at (reference key) end = c.update_list_presence.ensures ∙ ap (λ e. with_list_presence last c.args.at e end) c.element_in.ensures in
    let noted = c.note_present_child.ensures in
    let within : c.args.at.0 < length c.update_list_presence.new.nodes =
    omega (arith, c.requires.known, c.add_presence.auto.nodes, c.add_presence-in-None.auto.nodes, c.update_list_presence.auto.nodes) in
    subst (λ l. AddsPresenceAlong id c.args.role (plain nodes) l c.args.at (keys_below c.args.way.now key)) (sym (blocks-facts c.update_list_presence.new.nodes c.note_present_child.new.nodes c.args.at within noted.changes))
    (subst (λ l. AddsPresenceAlong id c.args.role (plain nodes) (plain c.update_list_presence.new.nodes) c.args.at l) (sym keys)
    (added_passed id c.args.role nodes mid last c.update_list_presence.new.nodes c.args.at end key [] c.requires.tree c.requires.known c.add_presence.ensures c.known_child-end.ensures
    (added_end id c.args.role mid last end at_end.within c.add_presence-in-None.ensures) is))

pub returns-in-None-clause-list_presence : goal.returns-in-None-clause-list_presence
returns-in-None-clause-list_presence t c = λ m way n i doubted.
    let id = c.args.id.now in
    let nodes = c.args.nodes.now in
    let mid = c.add_presence.new.nodes in
    let last = c.add_presence-in-None.new.nodes in
    let end = c.known_child-end.result in
    let key = c.args.key.now in
    let ready : IsReady nodes c.args.at (keys_below c.args.way.now key) =
    record { tree = c.requires.tree; within = c.requires.known; reached = c.requires.reached; room = c.requires.room } in
    let keys : keys_below c.args.way.now key ≡ key ∷ [] = ap (λ w. keys_below w key) (nil_from_length c.args.way.now c.in-None.ensures.cases) in
    let at_end = step_down id nodes mid c.args.at end key [] (subst (λ l. IsReady nodes c.args.at l) keys ready) c.add_presence.ensures c.known_child-end.ensures in
    let is : c.update_list_presence.new.nodes ≡ with_list_presence last c.args.at (reference key) end = c.update_list_presence.ensures ∙ ap (λ e. with_list_presence last c.args.at e end) c.element_in.ensures in
    let before = child_before id nodes mid c.args.at end key c.requires.known c.add_presence.ensures c.known_child-end.ensures in
    let there : ◌≡◌ {A = Option NodeNumber} (Some end) (Some m) =
    walk_on (child_of nodes) c.args.at end m key [] before (subst (λ l. walk (child_of nodes) c.args.at l ≡ Some m) keys way) in
    let same : end ≡ m = cc in
    let noted = c.note_present_child.ensures in
    let within : c.args.at.0 < length c.update_list_presence.new.nodes =
    omega (arith, c.requires.known, c.add_presence.auto.nodes, c.add_presence-in-None.auto.nodes, c.update_list_presence.auto.nodes) in
    blocks-shows_but c.update_list_presence.new.nodes c.note_present_child.new.nodes c.args.at within noted.changes c.args.at n i
    (shows_presence_passed id c.args.role nodes mid last c.update_list_presence.new.nodes c.args.at end key [] c.requires.tree c.requires.known c.add_presence.ensures c.known_child-end.ensures
    (added_end id c.args.role mid last end at_end.within c.add_presence-in-None.ensures) is end c.add_presence-in-None.auto.nodes
    (shows_presence_end id c.args.role mid last end at_end.within c.add_presence-in-None.ensures) n i
    (subst (λ z. ShowsPresenceBut nodes z n i) (sym same) doubted))

pub returns-in-None-clause-candidates : goal.returns-in-None-clause-candidates
returns-in-None-clause-candidates t c = λ n q right.
    let id = c.args.id.now in
    let nodes = c.args.nodes.now in
    let mid = c.add_presence.new.nodes in
    let last = c.add_presence-in-None.new.nodes in
    let end = c.known_child-end.result in
    let key = c.args.key.now in
    let ready : IsReady nodes c.args.at (keys_below c.args.way.now key) =
    record { tree = c.requires.tree; within = c.requires.known; reached = c.requires.reached; room = c.requires.room } in
    let keys : keys_below c.args.way.now key ≡ key ∷ [] = ap (λ w. keys_below w key) (nil_from_length c.args.way.now c.in-None.ensures.cases) in
    let at_end = step_down id nodes mid c.args.at end key [] (subst (λ l. IsReady nodes c.args.at l) keys ready) c.add_presence.ensures c.known_child-end.ensures in
    let is : c.update_list_presence.new.nodes ≡ with_list_presence last c.args.at (reference key) end = c.update_list_presence.ensures ∙ ap (λ e. with_list_presence last c.args.at e end) c.element_in.ensures in
    candidate_passed id c.args.role nodes mid last c.update_list_presence.new.nodes c.args.at end key [] c.requires.tree c.requires.known c.add_presence.ensures c.known_child-end.ensures
    (added_end id c.args.role mid last end at_end.within c.add_presence-in-None.ensures) is c.note_present_child.new.nodes c.add_presence-in-None.auto.nodes c.note_present_child.ensures
    (candidate_end id c.args.role mid last end at_end.within c.add_presence-in-None.ensures) n q right

pub returns-in-Some-clause-added : goal.returns-in-Some-clause-added
returns-in-Some-clause-added t c =
    let id = c.args.id.now in
    let nodes = c.args.nodes.now in
    let mid = c.add_presence.new.nodes in
    let last = c.add_presence_below.new.nodes in
    let key = key_of c.in-Some.next.now in
    let rest = keys_below c.in-Some.rest.now c.args.key.now in
    let below = c.known_child-below.result in
    let way : keys_below c.args.way.now c.args.key.now ≡ key ∷ rest = ap (λ w. keys_below w c.args.key.now) c.in-Some.ensures.cases.0 in
    let down : child_of mid c.args.at key ≡ Some below = ap (child_of mid c.args.at) (sym c.key.ensures) ∙ c.known_child-below.ensures in
    let is : c.update_list_presence-in-Some.new.nodes ≡ with_list_presence last c.args.at (reference key) below =
    c.update_list_presence-in-Some.ensures ∙ ap (λ e. with_list_presence last c.args.at e below) (c.element_in-in-Some.ensures ∙ ap reference c.key-in-Some.ensures) in
    let noted = c.note_present_child-in-Some.ensures in
    let within : c.args.at.0 < length c.update_list_presence-in-Some.new.nodes =
    omega (arith, c.requires.known, c.add_presence.auto.nodes, c.add_presence_below.auto.nodes, c.update_list_presence-in-Some.auto.nodes) in
    subst (λ l. AddsPresenceAlong id c.args.role (plain nodes) l c.args.at (keys_below c.args.way.now c.args.key.now))
    (sym (blocks-facts c.update_list_presence-in-Some.new.nodes c.note_present_child-in-Some.new.nodes c.args.at within noted.changes))
    (subst (λ l. AddsPresenceAlong id c.args.role (plain nodes) (plain c.update_list_presence-in-Some.new.nodes) c.args.at l) (sym way)
    (added_passed id c.args.role nodes mid last c.update_list_presence-in-Some.new.nodes c.args.at below key rest c.requires.tree c.requires.known c.add_presence.ensures down
    c.add_presence_below.ensures.added is))

pub returns-in-Some-clause-list_presence : goal.returns-in-Some-clause-list_presence
returns-in-Some-clause-list_presence t c = λ m reached n i doubted.
    let id = c.args.id.now in
    let nodes = c.args.nodes.now in
    let mid = c.add_presence.new.nodes in
    let last = c.add_presence_below.new.nodes in
    let key = key_of c.in-Some.next.now in
    let rest = keys_below c.in-Some.rest.now c.args.key.now in
    let below = c.known_child-below.result in
    let way : keys_below c.args.way.now c.args.key.now ≡ key ∷ rest = ap (λ w. keys_below w c.args.key.now) c.in-Some.ensures.cases.0 in
    let down : child_of mid c.args.at key ≡ Some below = ap (child_of mid c.args.at) (sym c.key.ensures) ∙ c.known_child-below.ensures in
    let is : c.update_list_presence-in-Some.new.nodes ≡ with_list_presence last c.args.at (reference key) below =
    c.update_list_presence-in-Some.ensures ∙ ap (λ e. with_list_presence last c.args.at e below) (c.element_in-in-Some.ensures ∙ ap reference c.key-in-Some.ensures) in
    let before = child_before id nodes mid c.args.at below key c.requires.known c.add_presence.ensures down in
    let on = walk_on (child_of nodes) c.args.at below m key rest before (subst (λ l. walk (child_of nodes) c.args.at l ≡ Some m) way reached) in
    let shape : child_of mid ≡ child_of nodes = ap child_of c.add_presence.ensures ∙ shape-set nodes c.args.at (made_present id Through (node_of nodes c.args.at)) c.requires.known refl in
    let noted = c.note_present_child-in-Some.ensures in
    let within : c.args.at.0 < length c.update_list_presence-in-Some.new.nodes =
    omega (arith, c.requires.known, c.add_presence.auto.nodes, c.add_presence_below.auto.nodes, c.update_list_presence-in-Some.auto.nodes) in
    blocks-shows_but c.update_list_presence-in-Some.new.nodes c.note_present_child-in-Some.new.nodes c.args.at within noted.changes c.args.at n i
    (shows_presence_passed id c.args.role nodes mid last c.update_list_presence-in-Some.new.nodes c.args.at below key rest c.requires.tree c.requires.known c.add_presence.ensures down
    c.add_presence_below.ensures.added is m c.add_presence_below.auto.nodes
    (c.add_presence_below.ensures.list_presence m (ap (λ f. walk f below rest) shape ∙ on)) n i doubted)

pub returns-in-Some-clause-candidates : goal.returns-in-Some-clause-candidates
returns-in-Some-clause-candidates t c = λ n q right.
    let id = c.args.id.now in
    let nodes = c.args.nodes.now in
    let mid = c.add_presence.new.nodes in
    let last = c.add_presence_below.new.nodes in
    let key = key_of c.in-Some.next.now in
    let rest = keys_below c.in-Some.rest.now c.args.key.now in
    let below = c.known_child-below.result in
    let down : child_of mid c.args.at key ≡ Some below = ap (child_of mid c.args.at) (sym c.key.ensures) ∙ c.known_child-below.ensures in
    let is : c.update_list_presence-in-Some.new.nodes ≡ with_list_presence last c.args.at (reference key) below =
    c.update_list_presence-in-Some.ensures ∙ ap (λ e. with_list_presence last c.args.at e below) (c.element_in-in-Some.ensures ∙ ap reference c.key-in-Some.ensures) in
    let noted : KeepsBlocks c.update_list_presence-in-Some.new.nodes c.note_present_child-in-Some.new.nodes c.args.at key =
    subst (KeepsBlocks c.update_list_presence-in-Some.new.nodes c.note_present_child-in-Some.new.nodes c.args.at) c.key-in-Some-2.ensures c.note_present_child-in-Some.ensures in
    candidate_passed id c.args.role nodes mid last c.update_list_presence-in-Some.new.nodes c.args.at below key rest c.requires.tree c.requires.known c.add_presence.ensures down
    c.add_presence_below.ensures.added is c.note_present_child-in-Some.new.nodes c.add_presence_below.auto.nodes noted
    c.add_presence_below.ensures.candidates n q right
