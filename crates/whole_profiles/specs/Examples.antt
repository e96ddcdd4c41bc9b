-- Small trees whose whole profiles are computed. Times are nanoseconds.
use Rattle.node_key.specs.Tree.{Tree, kid, no_kids}

-- a call of function 3 that takes no time
abbrev pub no_time : Tree
no_time = record { func = 3; dur = 0; kids = no_kids }

-- a track of 5 nanoseconds: function 2 runs from 1 to 4, and function 3 takes no time at its very end
abbrev pub call_at_the_end : Tree
call_at_the_end = record {
  func = 0;
  dur = 5;
  kids = kid 1 2 3 no_kids (kid 1 3 0 no_kids no_kids);
}
