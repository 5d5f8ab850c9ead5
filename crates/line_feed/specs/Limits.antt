-- The limits of lines.
use Rattle.std.specs.Prelude.{ℕ}

-- the bytes of a line, without its newline
abbrev pub longest_line : ℕ
longest_line = 65536

-- the bytes of the longest line and its newline, and the reads that fill so much
abbrev pub line_room : ℕ
line_room = 65537
