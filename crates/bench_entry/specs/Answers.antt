-- A verdict in numbers that C reads.
use Rattle.std.specs.Prelude.{cond}
use Rattle.protection.specs.Answers.{Said}
use Rattle.bench_entry.specs.declared.answer.Answer.{Answer}

abbrev pub answer_of : Said → Answer
answer_of said = record { leak = cond said.leaks 1 0; found = said.found; tried = said.tried; length = said.length }
