-- The texts of the replies. A function is told by the bytes of its name, at the end of its row.
use Rattle.std.specs.Prelude.{ℕ, Bool, true, false, List, [], ◌∷◌, ◌++◌, length, codes, decimal, nat_le}
use Rattle.std.specs.List.{flat_map}
use Rattle.trace_base.specs.declared.limits.TheConstants.{MAX_OPEN_TRACES}
use Rattle.session_proto.specs.declared.reply.NamedRow.{NamedRow}
use Rattle.session_proto.specs.declared.reply.No.{No}
use Rattle.session_proto.specs.declared.reply.No.TheVariants as no
use Rattle.session_proto.specs.declared.reply.Reply.{Reply}
use Rattle.session_proto.specs.declared.reply.Reply.TheVariants as reply

-- a number, and a space before it
abbrev pub spaced : ℕ → List ℕ
spaced n = 32 ∷ decimal n

-- the end of a line that tells a place
abbrev pub at_place : ℕ → List ℕ
at_place place = codes " @" ++ decimal place ++ 10 ∷ []

-- the line of a function: its number, calls, times and name
abbrev pub row_text : NamedRow → List ℕ
row_text r = decimal r.row.func ++ spaced r.row.calls ++ spaced r.row.incl ++ spaced r.row.excl ++ 32 ∷ r.name
    ++ 10 ∷ []

-- the line of a refusal
abbrev pub no_text : No → List ℕ
no_text no.Grammar = codes "NO 10\n"
no_text (no.Text line word) = codes "NO 20" ++ spaced line ++ 32 ∷ word.now ++ 10 ∷ []
no_text no.Large = codes "NO 21\n"
no_text (no.Unknown id place) = codes "NO 30" ++ spaced id ++ at_place place
no_text (no.Full place) = codes "NO 36" ++ spaced MAX_OPEN_TRACES ++ at_place place
no_text (no.Spent n) = codes "NO 40" ++ spaced n ++ 10 ∷ []
no_text no.Memory = codes "NO 41\n"

-- the lines of a reply
unfoldable pub reply_text : Reply → List ℕ
reply_text (reply.Put id tracks functions messages place) =
    codes "OK PUT" ++ spaced id ++ spaced tracks ++ spaced functions ++ spaced messages ++ at_place place
reply_text (reply.Flat over bare rows place) =
    (codes "OK FLAT" ++ spaced (length rows) ++ spaced over ++ spaced bare ++ at_place place)
    ++ flat_map row_text rows
reply_text reply.Quit = codes "OK QUIT\n"
reply_text (reply.No refusal) = no_text refusal

-- whether the line is of bounded length, whatever the word of a reason is
abbrev pub is_short_refusal : No → Bool
is_short_refusal (no.Text line word) = nat_le (length word.now) 100
is_short_refusal refusal = true

-- whether the reply is one line of bounded length: all but a profile
abbrev pub is_short : Reply → Bool
is_short (reply.Put id tracks functions messages place) = true
is_short (reply.Flat over bare rows place) = false
is_short reply.Quit = true
is_short (reply.No refusal) = is_short_refusal refusal
