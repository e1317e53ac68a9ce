use Rattle.pp_trace.proofs.FeedLaws.{no_feed, no_lines}
use Rattle.pp_trace.proofs.laws.nothing_fed.Goals as goal

pub returns : goal.returns
returns c = record {
  run = λ subject d rec grow h fit n o. no_feed subject grow d rec h fit n o;
  lines = λ subject mode d rec grow h fit n o. no_lines subject grow mode d rec h fit n o;
}
