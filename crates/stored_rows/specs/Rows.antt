-- The rows of the documents of a stored log.
use Rattle.std.specs.Prelude.{List, map, flat_map}
use Rattle.sqlite.specs.Order.{Row}
use Rattle.stored_rows.specs.Content.{rows_from}
use Rattle.stored_log.specs.Docs.{Doc, op_text}

-- the places of a document are 1, 2, .. without a gap
abbrev pub doc_rows : Doc → List Row
doc_rows d = rows_from d.name 1 (map op_text d.log)

abbrev pub rows_of : List Doc → List Row
rows_of docs = flat_map doc_rows docs
