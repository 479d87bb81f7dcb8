mod AcceptedLemmas
mod AnswerLemmas
mod ListLemmas
mod LinkLemmas
mod LinkOutLemmas
mod StepsLemmas
