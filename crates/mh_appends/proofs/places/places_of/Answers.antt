use Rattle.mh_appends.proofs.places.places_of.Goals as goal

pub returns-clause-paths : goal.returns-clause-paths
returns-clause-paths c = record {
  held = c.in_ok-number_path.ensures;
  beside = c.in_ok-path_in.ensures;
  sequences = c.in_ok-path_in-2.ensures;
  side = c.in_ok-path_in-3.ensures;
}
