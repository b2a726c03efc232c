-- `Output::number` meets its contract: a number in w bytes takes w bytes.
use mathlib.Core.Path.{refl}
use native.Mathlib.Omega.{arith}
use Rattle.definitions.proofs.Numbers.{bytes_length}
use Rattle.numbers.specs.Words.{put_at}
use Rattle.stream_write.proofs.Output.number.Goals as goal

pub returns : goal.returns
unfolding put_at
returns c = record {
  is = record { stored = c.put_number.ensures; behind = omega (arith, bytes_length c.args.w c.args.n) };
  long = c.put_number.auto.s;
  same_buffer = refl;
}
