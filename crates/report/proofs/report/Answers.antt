-- `report` gives the list, or prints the refusal. Assumes nothing.
use Rattle.report.proofs.Lists.{report_planned, report_refused}
use Rattle.report.proofs.report.Goals as goal

pub returns-in-Ok : goal.returns-in-Ok
returns-in-Ok c = report_planned c.args.file.now c.in-Ok.is c.plan_list.ensures

pub returns-in-Err : goal.returns-in-Err
returns-in-Err c = report_refused c.args.file.now c.in-Err.is c.plan_list.ensures c.print_kind.ensures
