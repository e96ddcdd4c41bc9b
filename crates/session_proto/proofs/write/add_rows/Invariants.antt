use Rattle.std.proofs.Common.{◌≡◌, ◌≤◌, ◌++◌, take, vec_capacity}
use Rattle.std.specs.List.{flat_map}
use Rattle.session_proto.specs.Reply.{row_text}
use Rattle.session_proto.proofs.write.add_rows.Given as goal

abbrev pub invariant-loop-named : goal.invariant-loop-named
invariant-loop-named l = record {
  written : l.out.items ≡ l.fn.out.items ++ flat_map row_text (take l.named-index l.rows);
  capacity : vec_capacity l.fn.out ≤ vec_capacity l.out;
}
