-- What an end wants of its bundles.
use Rattle.ppp_conf.specs.EndConfig.{EndSettings}
use Rattle.ppp_station.specs.declared.bap_terms.BapTerms.{BapTerms}

abbrev pub terms_of : EndSettings → BapTerms
terms_of s = record { most = s.most; least = s.least; calls = s.calls; callbacks = s.callbacks; speed = s.speed }
