-- Which reply is told.
use Rattle.std.specs.Prelude.{◌≡◌, ◌⊎◌, ℕ, false, List}
use Rattle.session_proto.specs.Reply.{reply_text, is_short}
use Rattle.session_proto.specs.declared.reply.No.TheVariants as no
use Rattle.session_proto.specs.declared.reply.Reply.{Reply}
use Rattle.session_proto.specs.declared.reply.Reply.TheVariants as reply

-- the bytes are the text of the reply; one that may be long may be told as want of memory
abbrev pub IsTold : Reply → List ℕ → Type 0
IsTold r bytes = (bytes ≡ reply_text r) ⊎ ((is_short r ≡ false) × (bytes ≡ reply_text (reply.No no.Memory)))
