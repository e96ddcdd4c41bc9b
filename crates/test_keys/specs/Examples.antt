-- Small trees whose keys are told. Times are nanoseconds.
use Rattle.node_key.specs.Tree.{Tree, kid, no_kids}

-- main runs for half a second and calls nothing
abbrev pub lone_main : Tree
lone_main = record { func = 1; dur = 500000000; kids = no_kids }

-- the track that has this call of main alone
abbrev pub track_of_lone_main : Tree
track_of_lone_main = record {
  func = 0;
  dur = 500000000;
  kids = kid 0 lone_main.func lone_main.dur lone_main.kids no_kids;
}
