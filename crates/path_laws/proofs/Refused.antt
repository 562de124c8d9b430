-- What is refused changes nothing. Assumes nothing.
use Rattle.paths.specs.Calls.{Paths}
use Rattle.paths.specs.Columns.{Columns, started_columns, sampled_columns, lost_columns}
use Rattle.path_laws.specs.Refused.{RefusedKeep}

pub refused_keep : (s : Paths) (c : Columns) → RefusedKeep s c
unfolding started_columns sampled_columns lost_columns
refused_keep s c =
    record {
      start = λ count e. rw e;
      sample = λ k r e. rw e;
      loss = λ k waited e. rw e;
      start_columns = λ count e. rw e;
      sample_columns = λ k r e. rw e;
      loss_columns = λ k waited e. rw e;
    }
