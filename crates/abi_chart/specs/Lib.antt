pub mod ChartAnswers
