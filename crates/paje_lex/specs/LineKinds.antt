-- The kinds of lines of a trace.
use Rattle.std.specs.Prelude.{ℕ, ◌+◌, ◌==◌, ◌||◌, List, Bool, true, false, slice_get, Option, Some, None}
use Rattle.std.specs.Prelude.{if◌then◌else◌}
use Rattle.std.specs.List.{prefix_len}

-- a space or a tab
abbrev pub is_blank : ℕ → Bool
is_blank b = b == 32 || b == 9

-- the first byte after spaces and tabs
abbrev pub first_byte : List ℕ → Option ℕ
first_byte line = slice_get line (prefix_len is_blank line)

abbrev pub is_none_or_hash : Option ℕ → Bool
is_none_or_hash None = true
is_none_or_hash (Some b) = b == 35

abbrev pub is_percent : Option ℕ → Bool
is_percent None = false
is_percent (Some b) = b == 37

-- a line of spaces and tabs alone, and one whose first byte after them is #
abbrev pub is_skipped_line : List ℕ → Bool
is_skipped_line line = is_none_or_hash (first_byte line)

-- a line whose first byte after spaces and tabs is %
abbrev pub is_definition_line : List ℕ → Bool
is_definition_line line = is_percent (first_byte line)

-- where the tokens of a line begin: after the % of a definition line, else at its front
abbrev pub tokens_start : List ℕ → ℕ
tokens_start line = if is_definition_line line then prefix_len is_blank line + 1 else 0
