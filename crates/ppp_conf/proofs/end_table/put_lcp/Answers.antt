use Rattle.ppp_conf.proofs.DiscTextLemmas.{class_small}
use Rattle.ppp_conf.proofs.end_table.put_lcp.Goals as goal

pub disc_text-requires : goal.disc_text-requires
disc_text-requires c = class_small c.args.end.now.disc.class c.args.end.now.disc.size c.args.end.now.disc_good
