use Rattle.std.proofs.Common.{ℕ, List, subst}
use Rattle.render.specs.Appended.{Appended}
use Rattle.worked_examples.specs.Examples.{WorkedExamples}
use Rattle.worked_examples.proofs.OfTexts.{words, cutting, order, roles, limits, declared, names, refused_texts, ranks, refusal_numbers}
use Rattle.worked_examples.proofs.OfSchemes.{predicates, actions, steps, numbers}
use Rattle.worked_examples.proofs.OfSystems.{permissions, two_states, three_states, one_label, table_refusals, locks}
use Rattle.worked_examples.proofs.OfReports.{reports}
use Rattle.worked_examples.proofs.put_meter_report.Goals as goal

worked_examples : WorkedExamples
worked_examples =
    record {
      words = words;
      cutting = cutting;
      order = order;
      roles = roles;
      limits = limits;
      declared = declared;
      names = names;
      refused_texts = refused_texts;
      ranks = ranks;
      refusal_numbers = refusal_numbers;
      predicates = predicates;
      actions = actions;
      steps = steps;
      numbers = numbers;
      permissions = permissions;
      two_states = two_states;
      three_states = three_states;
      one_label = one_label;
      table_refusals = table_refusals;
      locks = locks;
      reports = reports;
    }

pub returns : goal.returns
returns c =
    record {
      report =
          subst (λ (bytes : List ℕ). Appended c.annex.result c.args.out.now c.annex.new.out bytes)
          reports.meter_prints c.annex.ensures.report;
      examples = worked_examples;
    }
