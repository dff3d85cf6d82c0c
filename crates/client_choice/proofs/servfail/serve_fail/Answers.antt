use Rattle.client_choice.proofs.Failing.{read_where_served, unread_where_refused}
use Rattle.client_choice.proofs.Saying.{says_where_served}
use Rattle.client_choice.proofs.servfail.serve_fail.Goals as goal

pub returns-clause-read : goal.returns-clause-read
returns-clause-read c = read_where_served c.args.msg.now c.failing_message.result c.failing_message.ensures.few c.failing_message.ensures.value

pub returns-clause-refused : goal.returns-clause-refused
returns-clause-refused c = unread_where_refused c.args.msg.now c.failing_message.result c.failing_message.ensures.few c.failing_message.ensures.value

pub returns-clause-says : goal.returns-clause-says
returns-clause-says c = says_where_served c.args.msg.now c.failing_message.result c.is_in_range.ensures.octets c.is_in_range.ensures.header c.is_in_range.ensures.opt c.failing_message.ensures.value
