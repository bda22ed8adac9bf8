use Rattle.replay.proofs.Prints.{first_prints, wrap_prints, branch_prints, instr_prints, pair_prints, lone_shows, post_shows, clock_shows, variable_shows, turns_shows, all_turns_shows}
use Rattle.replay.proofs.Readings.{largest_reads, too_large_reads, minus_zero_reads}
use Rattle.replay.proofs.worked.worked_cases_hold.Goals as goal

pub returns : goal.returns
returns c = record {
  first = first_prints;
  wraps = wrap_prints;
  branches = branch_prints;
  instructions = instr_prints;
  pairs = pair_prints;
  lone = lone_shows;
  posts = post_shows;
  clocks = clock_shows;
  variables = variable_shows;
  turns = turns_shows;
  all_turns = all_turns_shows;
  largest = largest_reads;
  too_large = too_large_reads;
  minus_zero = minus_zero_reads;
}
