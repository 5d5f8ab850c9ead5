use Rattle.std.proofs.Common.{◌+◌, ◌*◌}
use Rattle.document_tests.proofs.plain_shown.+shown.Given as goal

abbrev pub decreases-write_members : goal.decreases-write_members
decreases-write_members l = 4 * l.depth + 2

abbrev pub decreases-write_member : goal.decreases-write_member
decreases-write_member l = 4 * l.depth + 1

abbrev pub decreases-write_map : goal.decreases-write_map
decreases-write_map l = 4 * l.depth + 3

abbrev pub decreases-write_elements : goal.decreases-write_elements
decreases-write_elements l = 4 * l.depth + 2

abbrev pub decreases-write_list : goal.decreases-write_list
decreases-write_list l = 4 * l.depth + 3

abbrev pub decreases-write_element : goal.decreases-write_element
decreases-write_element l = 4 * l.depth
