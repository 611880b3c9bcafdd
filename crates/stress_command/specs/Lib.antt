pub mod StressAnswers
