use Rattle.std.proofs.Common.{◌≡◌, ◌++◌, map, take}
use Rattle.serde_json.specs.Data.{string}
use Rattle.json_text.specs.Tokens.{all_tokens}
use Rattle.doc_view.specs.Members.{texts_in}
use Rattle.doc_view.proofs.arrays.write_texts.Given as goal

abbrev pub invariant-loop-child : goal.invariant-loop-child
invariant-loop-child l = l.text ≡ l.initial.text ++ all_tokens (map string (texts_in (take l.child-index l.children)))
